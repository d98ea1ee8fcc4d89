-- 02, slip 6: a list in which no two order tickets that pass 7 share a TxId, and kinds 4 to 8 leave bytes 27 to 37 zero, gives the steps
-- that it gives by TxId alone, once those name that order's sender. The steps whole: refusals, reports, rows and books.
--     one-payer-lists    where order tickets that share a TxId have one sender
--     old-lists          where none share one
--     steps-present      the present steps are those of the rules, `steps_from`
-- Assumes nothing.
use mathlib.Core.Path.{◌≡◌, refl, sym, ◌∙◌, ap, subst}
use mathlib.Core.List.{List, [], ◌∷◌}
use mathlib.Core.Logic.{⊎_elim}
use Prim.Native.Nat.{ℕ, suc, ◌+◌, ◌≤◌, ◌<◌}
use native.Mathlib.Nat.{not-suc-le-zero}
use native.Mathlib.Omega.{arith}
use lib.ListN.{length}
use Rattle.fields.proofs.Compared.{same_or_not, below_or_not}
use Rattle.ticket.specs.TicketLayout.{sender_of}
use Rattle.dayfile.specs.declared.roster.Roster.{Roster}
use Rattle.rules.specs.Book.{book_of}
use Rattle.rules.specs.Tick.{Step}
use Rattle.rules.specs.Step.{handed}
use Rattle.rules.specs.Inputs.{Input, steps_from}
use Rattle.rules.specs.Sound.{Sound}
use Rattle.rules.specs.declared.Book.{Book}
use Rattle.rules.proofs.StepSound.{file-sound, handed-sound}
use Rattle.by_txid.specs.StepBy.{handed_by_txid, steps_with}
use Rattle.by_txid.specs.OldLists.{input_of, ticket_of, about_order, Old, OnePayer, Renamed}
use Rattle.by_txid.proofs.OneTicket.{step_same, order-here}
use Rattle.by_txid.proofs.Sources.{Sourced, handed-sourced}

-- what is left of a list from input n on
record Left (xs : List Input) (n : ℕ) (zs : List Input) : Type 0 where
  long : n + length zs ≡ length xs
  at : (k : ℕ) → input_of zs k ≡ input_of xs (n + k)

all_left : (xs : List Input) → Left xs 0 xs
all_left xs = record { long = omega arith; at = λ k. let e : k ≡ 0 + k = omega arith in ap (input_of xs) e }

next-left : (xs : List Input) (n : ℕ) (z : Input) (zs : List Input) → Left xs n (z ∷ zs) → Left xs (suc n) zs
next-left xs n z zs l =
    record {
      long = let e = l.long in omega arith;
      at = λ k. l.at (suc k) ∙ (let e : n + suc k ≡ suc n + k = omega arith in ap (input_of xs) e);
    }

first-left : (xs : List Input) (n : ℕ) (z : Input) (zs : List Input) → Left xs n (z ∷ zs) → z ≡ input_of xs n
first-left xs n z zs l = l.at 0 ∙ (let e : n + 0 ≡ n = omega arith in ap (input_of xs) e)

module _ (xs ys : List Input) (old : OnePayer xs) (renamed : Renamed xs ys) (r : Roster) where
  steps-same : (n : ℕ) (xs' ys' : List Input) → Left xs n xs' → Left ys n ys' → (b : Book) → Sound b → Sourced xs r b
      → steps_with handed_by_txid b xs' ≡ steps_with handed b ys'
  steps-same n [] [] lx ly b s c = refl
  steps-same n [] (y ∷ ys') lx ly b s c =
      let p = lx.long in let q = ly.long in let e = renamed.long in absurd (omega arith)
  steps-same n (x ∷ xs') [] lx ly b s c =
      let p = lx.long in let q = ly.long in let e = renamed.long in absurd (omega arith)
  steps-same n (x ∷ xs') (y ∷ ys') lx ly b s c =
      let inside : n < length xs = let p = lx.long in omega arith in
      let x-is = first-left xs n x xs' lx in
      let y-is = first-left ys n y ys' ly in
      let u = ticket_of ys n in
      let about = about_order (ticket_of xs n) in
      let one : handed_by_txid b x.ticket x.buffer ≡ handed b y.ticket y.buffer =
      ap (λ (z : Input). handed_by_txid b z.ticket z.buffer) x-is
      ∙ step_same xs old n inside r b s c u (input_of xs n).buffer about refl (renamed.ticket n inside)
      ∙ ap (handed b u) (sym (renamed.buffer n inside))
      ∙ ap (λ (z : Input). handed b z.ticket z.buffer) (sym y-is) in
      let on : Sourced xs r (handed b y.ticket y.buffer).book =
      subst (λ (z : Input). Sourced xs r (handed b z.ticket z.buffer).book) (sym y-is)
      (handed-sourced xs n inside r u (order-here xs old n inside r b s c u about refl (renamed.ticket n inside)) b s c
      (input_of ys n).buffer) in
      ap (λ (w : Step). w ∷ steps_with handed_by_txid w.book xs') one
      ∙ ap (λ (ws : List Step). handed b y.ticket y.buffer ∷ ws)
      (steps-same (suc n) xs' ys' (next-left xs n x xs' lx) (next-left ys n y ys' ly) (handed b y.ticket y.buffer).book
      (handed-sound b s y.ticket y.buffer) on)

pub one-payer-lists : (file : List ℕ) (xs ys : List Input) → OnePayer xs → Renamed xs ys
    → steps_with handed_by_txid (book_of file) xs ≡ steps_with handed (book_of file) ys
one-payer-lists file xs ys old renamed =
    steps-same xs ys old renamed (book_of file).roster 0 xs ys (all_left xs) (all_left ys) (book_of file) (file-sound file)
    (record { roster = refl; source = λ i h. absurd (not-suc-le-zero h) })

-- where no two share a TxId, two that do are one
pub old-one-payer : (xs : List Input) → Old xs → OnePayer xs
old-one-payer xs old =
    record {
      payer = λ i j hi hj oi oj e.
          ⊎_elim
          (λ (below : i < j). absurd (old.distinct i j below hj oi oj e))
          (λ (above : j ≤ i).
          ⊎_elim
          (λ (is : i ≡ j). ap (λ (k : ℕ). sender_of (ticket_of xs k)) is)
          (λ (not : i ≡ j → ⊥).
          let below : j < i = apart i j not above in
          absurd (old.distinct j i below hi oj oi (sym e)))
          (same_or_not i j))
          (below_or_not i j);
      zeros = old.zeros;
    }
  where
    apart : (i j : ℕ) → (i ≡ j → ⊥) → j ≤ i → j < i
    apart i j not h = ⊎_elim (λ (l : j < i). l) (λ (l : i ≤ j). absurd (not (omega arith))) (below_or_not j i)

pub old-lists : (file : List ℕ) (xs ys : List Input) → Old xs → Renamed xs ys
    → steps_with handed_by_txid (book_of file) xs ≡ steps_with handed (book_of file) ys
old-lists file xs ys old renamed = one-payer-lists file xs ys (old-one-payer xs old) renamed

-- the steps of a list by the present step are those of `rules`
pub steps-present : (b : Book) (xs : List Input) → steps_with handed b xs ≡ steps_from b xs
steps-present b [] = refl
steps-present b (x ∷ xs) = let s = handed b x.ticket x.buffer in ap (λ (ss : List Step). s ∷ ss) (steps-present s.book xs)
