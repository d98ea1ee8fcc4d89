-- What is promised of a text fixes the verdict, and what is found in the text meets it.
--     never-form        what is judged of named elements is never 23
--     answered          the verdict of what is found in a text is what is promised
--     answered-once     no other verdict is
--     unread-form       a text without a reading is refused by 23
--     form-unread       only such a text is
-- Assumes nothing.
use Prim.Native.Nat.{ℕ}
use mathlib.Core.Path.{◌≡◌, refl, sym, ◌∙◌}
use mathlib.Core.Bool.{Bool, true, false, cond}
use mathlib.Core.List.{List}
use native.Mathlib.Omega.{arith}
use borrow.Author.Tests.{eqb-true, eqb-false}
use lib.Dec.{eqb}
use Rattle.iban.specs.Iban.{is_iban}
use Rattle.xml.specs.WellFormed.{Reading}
use Rattle.pacs.specs.Named.{Named, amount_row, iban_row, met, outside}
use Rattle.pacs.specs.Judged.{Verdict, refused, accepted, in_order, element_at, text_at, amount_right, codes_right, ticket_of, judged}
use Rattle.pacs.specs.Walk.{Found, unread, read_as, found}
use Rattle.pacs.specs.Answering.{form_refusal, verdict_of, Answered}
use Rattle.pacs.proofs.Readings.{reading-found, found-reading}

other : (n : ℕ) → (n ≡ form_refusal → ⊥) → refused n ≡ refused form_refusal → ⊥
other n f e = f cc

accepts : (ticket : List ℕ) → accepted ticket ≡ refused form_refusal → ⊥
accepts ticket e = let z : ◌≡◌ {A = ℕ} 0 1 = cc in omega arith

-- the tests of `judged`, in their order
tests-other : (order amount codes iban : Bool) (ticket : List ℕ)
    → cond order (cond amount (cond codes (cond iban (accepted ticket) (refused 8)) (refused 7)) (refused 25)) (refused 24)
    ≡ refused form_refusal
    → ⊥
tests-other false amount codes iban ticket = other 24 (λ e. omega arith)
tests-other true false codes iban ticket = other 25 (λ e. omega arith)
tests-other true true false iban ticket = other 7 (λ e. omega arith)
tests-other true true true false ticket = other 8 (λ e. omega arith)
tests-other true true true true ticket = accepts ticket

pub never-form : (time : ℕ) (ms : List Named) → judged time ms ≡ refused form_refusal → ⊥
unfolding judged
never-form time ms =
    tests-other
    (in_order 0 ms)
    (amount_right (element_at ms amount_row))
    (codes_right ms)
    (is_iban (text_at ms iban_row))
    (ticket_of time ms)

-- a text in which nothing is found has no reading
none_read : (t : List ℕ) → found t ≡ unread → Reading t → ⊥
none_read t e r =
    let as_read = reading-found t r in
    let z : ◌≡◌ {A = ℕ} 0 1 = cc in
    omega arith

-- a verdict that can't be other than 23 is 23
is-form : (v : Verdict) → ((v ≡ refused form_refusal → ⊥) → ⊥) → v ≡ refused form_refusal
is-form (accepted ticket) f = absurd (f (accepts ticket))
is-form (refused n) f = go (eqb n form_refusal) refl
  where
    go : (b : Bool) → eqb n form_refusal ≡ b → refused n ≡ refused form_refusal
    go true e = let same : n ≡ form_refusal = eqb-true n form_refusal e in cc
    go false e = absurd (f (other n (eqb-false n form_refusal e)))

pub answered : (t : List ℕ) (time : ℕ) (v : Verdict) → v ≡ verdict_of time (found t) → Answered t time v
answered t time v e = go (found t) refl
  where
    go : (k : Found) → found t ≡ k → Answered t time v
    go unread h =
        record {
          read = λ r. absurd (none_read t h r);
          formed = λ f. absurd (f (rw h at e));
        }
    go (read_as d seen) h =
        record {
          read = λ r. e ∙ rw (reading-found t r);
          formed = λ f. found-reading t d seen h;
        }

-- 02, slip 3 (23): .. or a form not allowed
pub unread-form : (t : List ℕ) (time : ℕ) (v : Verdict) → Answered t time v → (Reading t → ⊥) → v ≡ refused form_refusal
unread-form t time v a none = is-form v (λ f. none (a.formed f))

pub form-unread : (t : List ℕ) (time : ℕ) → Answered t time (refused form_refusal) → Reading t → ⊥
form-unread t time a r = never-form time (met r.document.root outside) (sym (a.read r))

pub answered-once : (t : List ℕ) (time : ℕ) (v w : Verdict) → Answered t time v → Answered t time w → v ≡ w
answered-once t time v w a b = go (found t) refl
  where
    go : (k : Found) → found t ≡ k → v ≡ w
    go unread h =
        unread-form t time v a (none_read t h) ∙ sym (unread-form t time w b (none_read t h))
    go (read_as d seen) h =
        let r = found-reading t d seen h in
        a.read r ∙ sym (b.read r)
