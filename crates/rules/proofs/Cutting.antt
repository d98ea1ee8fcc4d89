-- A cut: what it makes of each cover, and that it keeps a book sound. Assumes nothing.
use Rattle.std.specs.Prelude.{None, Option, Some, ℕ}
use mathlib.Core.Path.{◌≡◌, refl, ◌∙◌, ap}
use mathlib.Core.Bool.{Bool, true, false, not, cond}
use mathlib.Core.List.{List}
use mathlib.Core.Logic.{◌⊎◌, inl, inr, ⊎_elim}
use Prim.Native.Nat.{ℕ, zero, suc, ◌-◌, ◌≤◌, ◌<◌}
use native.Mathlib.Nat.{not-suc-le-zero}
use native.Mathlib.Omega.{arith}
use borrow.Author.Tests.{ltb-true, eqb-true, not-false}
use lib.Dec.{ltb, eqb}
use lib.ListN.{length, length-set}
use lib.Seq.{get_or-set_same, get_or-set_other}
use Rattle.fields.proofs.Tests.{or_left, or_right}
use Rattle.dayfile.specs.FileLimits.{most_participants}
use Rattle.dayfile.specs.Roster.{participant_of}
use Rattle.dayfile.specs.declared.roster.Roster.{Roster}
use Rattle.rules.specs.Book.{no_cover, cover_of}
use Rattle.rules.specs.Cover.{whole, total_of}
use Rattle.rules.specs.Find.{is_open}
use Rattle.rules.specs.Cut.{with_held, with_debit, cut_cover, cut_to}
use Rattle.rules.specs.Sound.{CoversSound}
use Rattle.rules.specs.declared.Cover.{Cover}
use Rattle.fields.proofs.Compared.{same_or_not, below_or_not}
use Rattle.rules.proofs.CoverMoving.{Either, fitted, set_there, set-total, set_keeps}

-- nothing held, no open debit
pub record Closed (c : Cover) : Type 0 where
  pub held : c.held ≡ 0
  pub debit : c.debit ≡ 0

pub closed : (c : Cover) → is_open c ≡ false → Closed c
closed c e =
    record {
      held = eqb-true _ _ (not-false _ (or_left (not (eqb c.held 0)) (not (eqb c.debit 0)) e));
      debit = eqb-true _ _ (not-false _ (or_right (not (eqb c.held 0)) (not (eqb c.debit 0)) e));
    }

-- what a cut leaves of a cover that was closed
pub record CutRight (c d : Cover) : Type 0 where
  pub whole : whole d ≡ whole c
  pub reserved : d.reserved ≡ c.reserved
  pub either : Either d

pub cut_right : (o : Option ℕ) (c : Cover) → Closed c → CutRight c (cut_cover o c)
cut_right None c z = record { whole = refl; reserved = refl; either = inl z.held }
cut_right (Some k) c z = go (ltb k c.available) refl (ltb c.available k)
  where
    go : (x : Bool) → ltb k c.available ≡ x → (y : Bool)
        → CutRight c (cond x (with_held (c.available - k) c) (cond y (with_debit (k - c.available) c) c))
    go true e y = record { whole = let l = ltb-true k c.available e in omega arith; reserved = refl; either = inr z.debit }
    go false e true = record { whole = refl; reserved = refl; either = inl z.held }
    go false e false = record { whole = refl; reserved = refl; either = inl z.held }

-- when the first n participants are cut: the facts of the covers, their total, and those that are not cut yet
pub record CutSound (size : ℕ) (due : ℕ → ℕ) (cs : List Cover) (n : ℕ) (ds : List Cover) : Type 0 where
  pub sound : CoversSound size due ds
  pub total : total_of size ds ≡ total_of size cs
  pub later : (q : ℕ) → n ≤ q → cover_of ds q ≡ cover_of cs q

module _ (r : Roster) (few : r.size ≤ most_participants) {due : ℕ → ℕ} {cs : List Cover} (s : CoversSound r.size due cs)
    (all : (p : ℕ) → p < r.size → Closed (cover_of cs p)) where
  pub cut-sound : (n : ℕ) → n ≤ r.size → CutSound r.size due cs n (cut_to r cs n)
  cut-sound zero h = record { sound = s; total = refl; later = λ q l. refl }
  cut-sound (suc p) h = go (cut-sound p (omega arith))
    where
      o : Option ℕ
      o = (participant_of r p).opening

      d : Cover
      d = cut_cover o (cover_of cs p)

      right : CutRight (cover_of cs p) d
      right = cut_right o (cover_of cs p) (all p h)

      go : CutSound r.size due cs p (cut_to r cs p) → CutSound r.size due cs (suc p) (cut_to r cs (suc p))
      go c =
          record {
            sound = set_keeps few c.sound p h d due (right.reserved ∙ s.reserved p h) (λ q n. refl) right.either;
            total =
                let e = set-total (fitted few c.sound) p h d in
                let same = ap whole (c.later p (omega arith)) in
                let w = right.whole in
                let t = c.total in
                omega arith;
            later = λ q l. set_there (fitted few c.sound) p h d q (λ i. omega arith) ∙ c.later q (omega arith);
          }

-- each participant's cover when all are cut
cut-long : (r : Roster) (cs : List Cover) (n : ℕ) → length (cut_to r cs n) ≡ length cs
cut-long r cs zero = refl
cut-long r cs (suc p) = length-set (cut_to r cs p) p (cut_cover (participant_of r p).opening (cover_of cs p)) ∙ cut-long r cs p

pub cut-each : (r : Roster) (cs : List Cover) (n : ℕ) → n ≤ length cs → (p : ℕ) → p < n
    → cover_of (cut_to r cs n) p ≡ cut_cover (participant_of r p).opening (cover_of cs p)
cut-each r cs zero h p l = absurd (not-suc-le-zero l)
cut-each r cs (suc n) h p l =
    ⊎_elim
    (λ (e : p ≡ n).
    rw e (get_or-set_same (cut_to r cs n) n (cut_cover (participant_of r n).opening (cover_of cs n)) no_cover (rw (cut-long r cs n) h)))
    (λ (k : p ≡ n → ⊥).
    get_or-set_other (cut_to r cs n) n p (cut_cover (participant_of r n).opening (cover_of cs n)) no_cover k
    ∙ cut-each r cs n (omega arith) p (below k (below_or_not p n)))
    (same_or_not p n)
  where
    below : (p ≡ n → ⊥) → (p < n) ⊎ (n ≤ p) → p < n
    below k (inl b) = b
    below k (inr b) = absurd (k (omega arith))
