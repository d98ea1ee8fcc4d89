-- Inputs one after the other. A list of them in two parts: the second is handed to the book that the first left.
--     seen-append     what is seen of the two
--     inputs-sound    a sound book stays sound
-- Assumes nothing.
use mathlib.Core.Path.{◌≡◌, refl, ap}
use mathlib.Core.List.{List, [], ◌∷◌, ◌++◌}
use Rattle.rules.specs.Inputs.{Input, Seen, seen, outcome_of, book_from, seen_from}
use Rattle.rules.specs.Sound.{Sound}
use Rattle.rules.specs.declared.Book.{Book}
use Rattle.rules.proofs.StepSound.{handed-sound}

pub seen-append : (b : Book) (xs ys : List Input) → seen_from b (xs ++ ys) ≡ seen_from b xs ++ seen_from (book_from b xs) ys
seen-append b [] ys = refl
seen-append b (x ∷ xs) ys = ap (λ (ss : List Seen). seen x (outcome_of b x) ∷ ss) (seen-append (outcome_of b x).book xs ys)

pub inputs-sound : (b : Book) → Sound b → (xs : List Input) → Sound (book_from b xs)
inputs-sound b s [] = s
inputs-sound b s (x ∷ xs) = inputs-sound (outcome_of b x).book (handed-sound b s x.ticket x.buffer) xs
