-- Who sends a ticket: of the participants, whose BICs differ, only the one that was found has the sender's. Assumes nothing.
use mathlib.Core.Path.{◌≡◌, refl, sym, ◌∙◌}
use mathlib.Core.Bool.{Bool, true, false}
use mathlib.Core.List.{List}
use mathlib.Core.Logic.{⊎_elim}
use Prim.Native.Nat.{ℕ, ◌≤◌, ◌<◌}
use native.Mathlib.Omega.{arith}
use borrow.Author.Tests.{eq-eqb, ne_eqb}
use lib.Dec.{eqb}
use Rattle.fields.specs.Text.{same}
use Rattle.fields.proofs.Same.{same_refl, same_true}
use Rattle.fields.proofs.Finding.{FoundAt}
use Rattle.dayfile.specs.Roster.{participant_of}
use Rattle.dayfile.specs.Guarantee.{Guaranteed}
use Rattle.dayfile.specs.declared.roster.Roster.{Roster}
use Rattle.fields.proofs.Compared.{same_or_not, below_or_not}

-- a comparison either way round
pub swapped : (p q : ℕ) → eqb p q ≡ eqb q p
swapped p q =
    ⊎_elim
    (λ (i : p ≡ q). rw i refl)
    (λ (n : p ≡ q → ⊥). ne_eqb p q n ∙ sym (ne_eqb q p (λ e. n (sym e))))
    (same_or_not p q)

module _ (r : Roster) (g : Guaranteed r) (s : List ℕ) (q : ℕ) (found : FoundAt (λ p. same (participant_of r p).bic s) r.size q) where
  -- two participants with one BIC are one
  one-bic : (p : ℕ) → p < r.size → same (participant_of r p).bic s ≡ true → p ≡ q
  one-bic p l e =
      ⊎_elim (λ (i : p ≡ q). i)
      (λ (n : p ≡ q → ⊥).
      let bics : (participant_of r p).bic ≡ (participant_of r q).bic =
      same_true (participant_of r p).bic s e ∙ sym (same_true (participant_of r q).bic s found.passes) in
      ⊎_elim
      (λ (below : p < q).
      let differ = g.distinct p q below found.below in
      let alike : same (participant_of r p).bic (participant_of r q).bic ≡ true = rw bics (same_refl (participant_of r q).bic) in
      let z : ◌≡◌ {A = ℕ} 0 1 = cc in
      absurd (omega arith))
      (λ (above : q ≤ p).
      let differ = g.distinct q p (not_same n above) l in
      let alike : same (participant_of r q).bic (participant_of r p).bic ≡ true = rw bics (same_refl (participant_of r q).bic) in
      let z : ◌≡◌ {A = ℕ} 0 1 = cc in
      absurd (omega arith))
      (below_or_not p q))
      (same_or_not p q)
    where
      not_same : (p ≡ q → ⊥) → q ≤ p → q < p
      not_same n above = ⊎_elim (λ (i : q < p). i) (λ (i : p ≤ q). absurd (n (omega arith))) (below_or_not q p)

  pub who-sends : (p : ℕ) → p < r.size → same (participant_of r p).bic s ≡ eqb q p
  who-sends p l =
      ⊎_elim
      (λ (i : p ≡ q). rw i (found.passes ∙ sym (eq-eqb q q refl)))
      (λ (n : p ≡ q → ⊥). other n (same (participant_of r p).bic s) refl ∙ sym (ne_eqb q p (λ e. n (sym e))))
      (same_or_not p q)
    where
      other : (p ≡ q → ⊥) → (x : Bool) → same (participant_of r p).bic s ≡ x → same (participant_of r p).bic s ≡ false
      other n true e = absurd (n (one-bic p l e))
      other n false e = e
