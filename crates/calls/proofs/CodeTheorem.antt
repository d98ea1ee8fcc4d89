-- Demand 3 reaches the code: whoever hands in tickets sees what the rules give, so that the claim holds of it.
--     called-runs       what was seen, and the book, are those of the rules
--     called-sound      what `hand_in` needs of the book is so at every call
--     calls-demand3     demand 3, of what was seen and the book at the end, from any sound book
--     opened-demand3    from the book that `open` gives of any day file
--     all-called        any inputs can be handed in: what the rules give is what the promises let a caller see
-- Assumes nothing.
use mathlib.Core.Path.{◌≡◌, refl, sym, ◌∙◌, ap, ap₂, subst}
use mathlib.Core.List.{List, [], ◌∷◌}
use Prim.Native.Nat.{ℕ}
use Rattle.rules.specs.Book.{book_of}
use Rattle.rules.specs.Step.{Outcome}
use Rattle.rules.specs.Inputs.{Input, Seen, seen, outcome_of, seen_from, book_from}
use Rattle.rules.specs.Sound.{Sound}
use Rattle.rules.specs.declared.Book.{Book}
use Rattle.rules.proofs.StepSound.{handed-sound}
use Rattle.book.specs.Opening.{Opens}
use Rattle.book.specs.Handing.{handed_in}
use Rattle.book.specs.declared.opening.Opened.{Opened}
use Rattle.audit.specs.History.{from}
use Rattle.audit.specs.Claim.{Claim}
use Rattle.audit.specs.Run.{events_on}
use Rattle.audit.proofs.Theorem.{holds}
use Rattle.calls.specs.Calls.{Called, done, then}

pub called-runs : {b end : Book} {inputs : List Input} {seen : List Seen} → Called b inputs seen end
    → (seen ≡ seen_from b inputs) × (end ≡ book_from b inputs)
called-runs done = (refl, refl)
called-runs (then {b} {end} {x} {r} {after} {inputs} h c) =
    let rest = called-runs c in
    let is : handed_in r after ≡ outcome_of b x = h.outcome in (
      ap₂ (λ (s : Seen) (ss : List Seen). s ∷ ss) (ap (seen x) is) (rest.0 ∙ ap (λ (o : Outcome). seen_from o.book inputs) is),
      rest.1 ∙ ap (λ (o : Outcome). book_from o.book inputs) is,
    )

pub called-sound : {b end : Book} {inputs : List Input} {seen : List Seen} → Sound b → Called b inputs seen end → Sound end
called-sound s done = s
called-sound s (then h c) = called-sound h.sound c

pub calls-demand3 : (b : Book) → Sound b → (inputs : List Input) (seen : List Seen) (end : Book) → Called b inputs seen end
    → Claim (events_on (from b) seen) end
calls-demand3 b s inputs seen end c =
    let is = called-runs c in
    subst (λ (ss : List Seen). Claim (events_on (from b) ss) end) (sym is.0)
    (subst (Claim (events_on (from b) (seen_from b inputs))) (sym is.1) (holds b s inputs))

pub opened-demand3 : (file : List ℕ) (r : Opened) → Opens file r → (inputs : List Input) (seen : List Seen) (end : Book)
    → Called r.book inputs seen end → Claim (events_on (from (book_of file)) seen) end
opened-demand3 file r o inputs seen end c =
    subst (λ (b : Book). Claim (events_on (from b) seen) end) (ap (λ (z : Opened). z.book) o.opened)
    (calls-demand3 r.book o.sound inputs seen end c)

pub all-called : (b : Book) → Sound b → (inputs : List Input) → Called b inputs (seen_from b inputs) (book_from b inputs)
all-called b s [] = done
all-called b s (x ∷ xs) =
    let o = outcome_of b x in
    let sound = handed-sound b s x.ticket x.buffer in
    then {r = record { refusal = o.refusal; reports = o.reports; rows = o.rows; book = o.book }}
    (record { outcome = refl; sound = sound })
    (all-called o.book sound xs)
