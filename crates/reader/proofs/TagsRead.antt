-- What the end of a tag tells of what is read there. Assumes nothing.
use Prim.Native.Nat.{ℕ, ◌≤◌, ◌<◌}
use mathlib.Core.Path.{◌≡◌, refl, ap}
use mathlib.Core.List.{List}
use lib.ListN.{length, drop}
use Rattle.xml.specs.Tree.{Tag}
use Rattle.xml.specs.Scanning.{TagRead, no_tag, opens, closes}
use Rattle.tags.specs.Tagged.{Tagged}
use Rattle.tags.specs.declared.TagEnd.{TagEnd}
use Rattle.tags.specs.declared.TagEnd.TheVariants.{Opens, Closes}
use Rattle.tags.specs.declared.TagFault.{TagFault}
use Rattle.std.specs.Prelude.{Result, Ok, Err}

pub record Opened (t : List ℕ) (at : ℕ) (r : TagRead) (p : ℕ) : Type 0 where
  pub tag : Tag
  pub read : r ≡ opens tag (drop p t)
  pub later : at < p
  pub within : p ≤ length t

pub record Closed (t : List ℕ) (at : ℕ) (r : TagRead) (p : ℕ) : Type 0 where
  pub tag : Tag
  pub read : r ≡ closes tag (drop p t)
  pub later : at < p
  pub within : p ≤ length t

pub opened : (t : List ℕ) (at : ℕ) (r : TagRead) {e : Result TagEnd TagFault} {p : ℕ} → e ≡ Ok (Opens p) → Tagged t at r e → Opened t at r p
opened t at r {e} {p} is h = go r (rw is at h)
  where
    go : (k : TagRead) → Tagged t at k (Ok (Opens p)) → Opened t at k p
    go (opens u z) k = record { tag = u; read = ap (opens u) k.0; later = k.1; within = k.2 }
    go (closes u z) k = absurd k
    go no_tag k = absurd k

pub closed : (t : List ℕ) (at : ℕ) (r : TagRead) {e : Result TagEnd TagFault} {p : ℕ} → e ≡ Ok (Closes p) → Tagged t at r e → Closed t at r p
closed t at r {e} {p} is h = go r (rw is at h)
  where
    go : (k : TagRead) → Tagged t at k (Ok (Closes p)) → Closed t at k p
    go (closes u z) k = record { tag = u; read = ap (closes u) k.0; later = k.1; within = k.2 }
    go (opens u z) k = absurd k
    go no_tag k = absurd k

pub no-tag-there : (t : List ℕ) (at : ℕ) (r : TagRead) {e : Result TagEnd TagFault} {f : TagFault} → e ≡ Err f → Tagged t at r e
    → r ≡ no_tag
no-tag-there t at r {e} {f} is h = go r (rw is at h)
  where
    go : (k : TagRead) → Tagged t at k (Err f) → k ≡ no_tag
    go no_tag k = refl
    go (opens u z) k = absurd k
    go (closes u z) k = absurd k
