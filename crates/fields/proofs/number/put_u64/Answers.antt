-- `fields::number::put_u64` meets its contract: what the part holds is stored one byte after the other. Assumes nothing.
use mathlib.Core.Path.{◌≡◌, sym, ◌∙◌, ap}
use mathlib.Core.List.{List, ◌++◌}
use Prim.Native.Nat.{ℕ, ◌+◌, ◌≤◌}
use native.Mathlib.Nat.{div-one}
use native.Mathlib.Omega.{arith}
use lib.ListN.{length, take, drop}
use lib.Seq.{sets, sets-eq, take-length}
use borrow.Rule.Slice.PartMut.{put_mid}
use Rattle.std.proofs.lemmas.Slice.{put_mid-paste}
use Rattle.fields.specs.Number.{bytes_of}
use Rattle.fields.proofs.number.put_u64.Goals as goal

stored : (a k : ℕ) (xs ys vs : List ℕ) → ys ≡ vs → k ≡ length vs → a + length vs ≤ length xs → put_mid a k xs ys ≡ sets xs a vs
stored a k xs ys vs e w h =
    put_mid-paste a k xs ys vs (length vs) e (sym w) (omega arith)
    ∙ ap (λ (t : List ℕ). take a xs ++ t ++ drop (a + length vs) xs) (take-length vs)
    ∙ sym (sets-eq vs xs a h)

pub returns : goal.returns
returns c =
    let a = c.args in
    stored a.at _ a.s.now _ (bytes_of 8 a.n) (c.copy_from_slice.ensures.after ∙ c.to_be_bytes.ensures ∙ simp div-one) (omega arith) c.requires
