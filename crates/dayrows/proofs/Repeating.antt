-- The BICs of a section's first rows as rows of words, and whether one of them is an earlier one's. Assumes nothing.
--     all-right    all rows right by themselves, and none with an earlier row's BIC
use Rattle.std.proofs.Common.{◌≡◌, ℕ, zero, suc, ◌+◌, ◌*◌, ◌<◌, ◌≤◌, Bool, true, false, ◌&&◌, ◌||◌, not, List, [], ◌∷◌, ◌++◌, length, take, drop, ◌-◌, add-one, sym, refl, ap, ap₂, ◌∙◌, arith, is_some, Option, Some, None}
use native.Mathlib.Nat.{add-sub_cancel_left}
use Rattle.fields.specs.Number.{part}
use Rattle.fields.specs.Text.{same}
use Rattle.fields.specs.Search.{found_or, first_to}
use Rattle.fields.specs.UpTo.{all_to, any_to}
use Rattle.fields.proofs.Finding.{first-same}
use Rattle.fields.proofs.Stores.{length_part}
use Rattle.fields.proofs.Tests.{never}
use Rattle.fields.proofs.UpTo.{none-at, all_apart}
use Rattle.fields.proofs.Indexing.{row_within}
use Rattle.index.specs.RowChains.{rows_of, first_with, Distinct}
use Rattle.index.proofs.RowsOf.{first-of, distinct-of}
use Rattle.index.specs.Words.{Bytes, bic_words}
use Rattle.index.proofs.Comparing.{same-bics, part_bytes}
use Rattle.dayfile.specs.FileRows.{bic_among}
use Rattle.dayrows.specs.Repeats.{bic_in, bic_repeats}

-- a row of a section ends within the file
pub row_ends : (start width n i end : ℕ) → 11 ≤ width → start + width * n ≤ end → i < n → start + width * i + 11 ≤ end
row_ends start width n i end wide rows below = omega (arith, row_within width i n below)

-- all rows right by themselves, and none with an earlier row's BIC
pub all-right : {ok repeats : Bool} (right : ℕ → Bool) (start width n i : ℕ) (f : List ℕ) → i ≡ n → ok ≡ all_to right i
    → repeats ≡ bic_repeats start width n f
    → (ok && not repeats) ≡ all_to (λ j. right j && not (bic_among start width j (bic_in start width f j) f)) n
all-right right start width n i f e p q =
    ap₂ (λ (b r : Bool). b && not r) (p ∙ ap (all_to right) e) q
    ∙ sym (all_apart right (λ j. bic_among start width j (bic_in start width f j) f) n)

-- the words of a BIC at a place
pub words-at : {words : List ℕ} (at : ℕ) (f : List ℕ) → words ≡ bic_words (take (at + 11 - at) (drop at f)) → words ≡ bic_words (part 11 at f)
words-at at f e = e ∙ ap (λ (v : ℕ). bic_words (take v (drop at f))) (add-sub_cancel_left at 11)

-- one passes
one-to : (test : ℕ → Bool) (n i : ℕ) → i < n → test i ≡ true → any_to test n ≡ true
one-to test n i l e = go (any_to test n) refl
  where
    go : (b : Bool) → any_to test n ≡ b → any_to test n ≡ true
    go true q = q
    go false q = never (sym e ∙ none-at test n i q l)

some-to : (test : ℕ → Bool) (n : ℕ) → is_some (first_to test n) ≡ any_to test n
some-to test zero = refl
some-to test (suc n) = go (first_to test n) (test n) ∙ ap (λ (b : Bool). b || test n) (some-to test n)
  where
    go : (o : Option ℕ) (b : Bool) → is_some (found_or o n b) ≡ (is_some o || b)
    go (Some i) b = refl
    go None true = refl
    go None false = refl

-- the first i rows, as those after them see them
module _ (start width n : ℕ) (f : List ℕ) (bytes : Bytes f) (wide : 11 ≤ width) (within : start + width * n ≤ length f) where
  abbrev bic_row : ℕ → List ℕ
  bic_row i = bic_words (bic_in start width f i)

  same-row : (i j : ℕ) → i < n → j < n → same (bic_row i) (bic_row j) ≡ same (bic_in start width f i) (bic_in start width f j)
  same-row i j l k =
      same-bics (bic_in start width f i) (bic_in start width f j) (length_part 11 _ f (row_ends start width n i _ wide within l))
      (length_part 11 _ f (row_ends start width n j _ wide within k)) (part_bytes bytes 11 _) (part_bytes bytes 11 _)

  -- no BIC repeats, so no two rows hold the same
  pub rows-apart : (i : ℕ) → i ≤ n → bic_repeats start width i f ≡ false → Distinct (rows_of bic_row i)
  rows-apart i l none =
      distinct-of bic_row i
      (λ j k a b.
      same-row j k (omega arith) (omega arith)
      ∙ none-at (λ m. same (bic_in start width f m) (bic_in start width f k)) k j
      (none-at (λ m. bic_among start width m (bic_in start width f m) f) i k none b) a)

  -- what a search among them finds
  seen-before : (i : ℕ) → i < n → is_some (first_with (bic_row i) (rows_of bic_row i)) ≡ bic_among start width i (bic_in start width f i) f
  seen-before i l =
      ap is_some
      (first-of bic_row i (bic_row i)
      ∙ first-same (λ j. same (bic_row j) (bic_row i)) (λ j. same (bic_in start width f j) (bic_in start width f i)) i
      (λ j k. same-row j i (omega arith) l))
      ∙ some-to (λ j. same (bic_in start width f j) (bic_in start width f i)) i

  pub told : {b : Bool} {found : Option ℕ} {words : List ℕ} {seen : List (List ℕ)} (i : ℕ) → i < n → seen ≡ rows_of bic_row i → words ≡ bic_row i
      → found ≡ first_with words seen → b ≡ is_some found → b ≡ bic_among start width i (bic_in start width f i) f
  told i l s w e q = q ∙ ap is_some (e ∙ ap₂ first_with w s) ∙ seen-before i l

  -- one row more
  pub one-more : {words : List ℕ} {seen : List (List ℕ)} (i : ℕ) → seen ≡ rows_of bic_row i → words ≡ bic_row i → bic_repeats start width i f ≡ false
      → bic_among start width i (bic_in start width f i) f ≡ false
      → (seen ++ words ∷ [] ≡ rows_of bic_row (i + 1)) × (bic_repeats start width (i + 1) f ≡ false)
  one-more i s w none other = (simp (add-one i, s, w), simp (add-one i, none, other))

  pub repeats-here : (i : ℕ) → i < n → bic_among start width i (bic_in start width f i) f ≡ true → bic_repeats start width n f ≡ true
  repeats-here i l e = one-to (λ j. bic_among start width j (bic_in start width f j) f) n i l e
