-- A test that a list is written for the rules by TxId alone, which the checker computes. Assumes nothing.
use mathlib.Core.Path.{◌≡◌, sym, ◌∙◌, ap, ap₂}
use mathlib.Core.Bool.{Bool, true, false, ◌&&◌, ◌||◌, not}
use mathlib.Core.List.{List}
use Prim.Native.Nat.{ℕ}
use borrow.Author.Tests.{not-true}
use lib.ListN.{length}
use Rattle.fields.specs.Text.{blank, same}
use Rattle.fields.specs.UpTo.{all_to}
use Rattle.fields.proofs.Same.{same_refl}
use Rattle.fields.proofs.Tests.{and_left, and_right, never}
use Rattle.fields.proofs.UpTo.{all-at}
use Rattle.ticket.specs.TicketLayout.{payee_of, txid_field}
use Rattle.ticket.specs.Shape.{shape_of}
use Rattle.rules.specs.Inputs.{Input}
use Rattle.by_txid.specs.OldLists.{ticket_of, about_order, Old}
use Rattle.by_txid.specs.Renaming.{is_order}

-- two order tickets that pass 7 and share a TxId
abbrev shared : List ℕ → List ℕ → Bool
shared t u = is_order (shape_of t) && (is_order (shape_of u) && same (txid_field t) (txid_field u))

abbrev zero_if_about : List ℕ → Bool
zero_if_about t = not (about_order t) || blank (payee_of t)

abbrev apart_to : List Input → ℕ → Bool
apart_to xs j = all_to (λ i. not (shared (ticket_of xs i) (ticket_of xs j))) j

abbrev is_old : List Input → Bool
is_old xs = all_to (apart_to xs) (length xs) && all_to (λ i. zero_if_about (ticket_of xs i)) (length xs)

pub old-by-test : (xs : List Input) → is_old xs ≡ true → Old xs
old-by-test xs e =
    record {
      distinct = λ i j l h oi oj q.
          let test = all-at (λ k. not (shared (ticket_of xs k) (ticket_of xs j))) j i (all-at (apart_to xs) (length xs) j apart h) l in
          never
          (sym
          (ap₂ ◌&&◌ (ap is_order oi)
          (ap₂ ◌&&◌ (ap is_order oj)
          (ap (same (txid_field (ticket_of xs i))) (sym q) ∙ same_refl (txid_field (ticket_of xs i)))))
          ∙ not-true _ test);
      zeros = λ i h about. zero (about_order (ticket_of xs i)) (blank (payee_of (ticket_of xs i)))
          (all-at (λ k. zero_if_about (ticket_of xs k)) (length xs) i zeros h) about;
    }
  where
    apart : all_to (apart_to xs) (length xs) ≡ true
    apart = and_left (all_to (apart_to xs) (length xs)) (all_to (λ i. zero_if_about (ticket_of xs i)) (length xs)) e

    zeros : all_to (λ i. zero_if_about (ticket_of xs i)) (length xs) ≡ true
    zeros = and_right (all_to (apart_to xs) (length xs)) (all_to (λ i. zero_if_about (ticket_of xs i)) (length xs)) e

    zero : (a z : Bool) → (not a || z) ≡ true → a ≡ true → z ≡ true
    zero true z q about = q
    zero false z q about = never (sym about)
