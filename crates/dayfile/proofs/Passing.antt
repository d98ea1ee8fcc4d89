-- What the checks of a day file tell, one after the other. Assumes nothing.
use Rattle.std.specs.Prelude.{None, Option, Some}
use mathlib.Core.Path.{◌≡◌, refl, ◌∙◌, ap}
use mathlib.Core.Bool.{Bool, true, false, ◌&&◌, cond}
use mathlib.Core.List.{List}
use mathlib.Core.Logic.{◌⊎◌, inl, inr, ⊎_elim}
use Prim.Native.Nat.{ℕ, ◌+◌, ◌*◌, ◌≤◌}
use borrow.Author.Tests.{leb-true, eqb-true}
use native.Mathlib.Omega.{arith}
use lib.Dec.{leb, eqb}
use lib.ListN.{length}
use Rattle.fields.proofs.Tests.{and_left, and_right, passed}
use Rattle.dayfile.specs.Header.{headed}
use Rattle.dayfile.specs.Check.{CountsInRange, ranged, placed, participants_ok, routes_ok, enrolled}
use Rattle.dayfile.specs.DayFile.{day_file, file_headed, file_ranged, file_placed, file_enrolled, file_routed, refused_file, accepted_file}
use Rattle.dayfile.specs.declared.DayFile.{DayFile}
use Rattle.dayfile.specs.declared.header.Header.{Header}
use Rattle.dayfile.specs.declared.check.Ranged.{Ranged}
use Rattle.dayfile.specs.declared.check.Ranged.TheVariants.{Within, Outside}
use Rattle.dayfile.specs.declared.check.Placed.{Placed}
use Rattle.dayfile.specs.declared.check.Placed.TheVariants.{Right, Wrong}
use Rattle.dayfile.specs.declared.check.Enrolled.TheVariants as participants-are
use Rattle.dayfile.specs.declared.check.Routed.TheVariants as routes-are

-- 2 passed: the counts are in range
pub counts-in-range : (h : Header) → ranged h ≡ Within → CountsInRange h.counts
counts-in-range h e =
    record {
      least = leb-true 1 p (and_left a b ab);
      participants = leb-true p 32 (and_right a b ab);
      routes = leb-true h.counts.routes 64 (and_right (a && b) c abc);
      tickets = leb-true h.counts.tickets 512 (and_right (a && b && c) d all);
    }
  where
    p : ℕ
    p = h.counts.participants

    a : Bool
    a = leb 1 p

    b : Bool
    b = leb p 32

    c : Bool
    c = leb h.counts.routes 64

    d : Bool
    d = leb h.counts.tickets 512

    all : (a && b && c && d) ≡ true
    all = passed (a && b && c && d) Within Outside (λ q. let z : ◌≡◌ {A = ℕ} 0 1 = cc in omega arith) e

    abc : (a && b && c) ≡ true
    abc = and_left (a && b && c) d all

    ab : (a && b) ≡ true
    ab = and_left (a && b) c abc

-- 3 passed: the sections lie one after the other
pub record InPlace (h : Header) (size : ℕ) : Type 0 where
  pub participants : h.offsets.participants ≡ 12
  pub routes : h.offsets.routes ≡ 12 + 24 * h.counts.participants
  pub tickets : h.offsets.tickets ≡ 12 + 24 * h.counts.participants + 16 * h.counts.routes
  pub end : size ≡ 12 + 24 * h.counts.participants + 16 * h.counts.routes + 108 * h.counts.tickets

pub in_place : (h : Header) (size : ℕ) → placed h size ≡ Right → InPlace h size
in_place h size e =
    record {
      participants = eqb-true h.offsets.participants 12 (and_left a b ab);
      routes = eqb-true h.offsets.routes routes-at (and_right a b ab);
      tickets = eqb-true h.offsets.tickets tickets-at (and_right (a && b) c abc);
      end = eqb-true size end-at (and_right (a && b && c) d all);
    }
  where
    routes-at : ℕ
    routes-at = 12 + 24 * h.counts.participants

    tickets-at : ℕ
    tickets-at = routes-at + 16 * h.counts.routes

    end-at : ℕ
    end-at = tickets-at + 108 * h.counts.tickets

    a : Bool
    a = eqb h.offsets.participants 12

    b : Bool
    b = eqb h.offsets.routes routes-at

    c : Bool
    c = eqb h.offsets.tickets tickets-at

    d : Bool
    d = eqb size end-at

    all : (a && b && c && d) ≡ true
    all = passed (a && b && c && d) Right Wrong (λ q. let z : ◌≡◌ {A = ℕ} 0 1 = cc in omega arith) e

    abc : (a && b && c) ≡ true
    abc = and_left (a && b && c) d all

    ab : (a && b) ≡ true
    ab = and_left (a && b) c abc

file-is-headed : (f : List ℕ) → day_file f ≡ file_headed f (headed f)
unfolding day_file
file-is-headed f = refl

-- the file from each check on
module _ (f : List ℕ) (h : Header) (head : headed f ≡ Some h) where
  pub file-headed : day_file f ≡ file_ranged h f (ranged h)
  unfolding day_file
  file-headed = ap (file_headed f) head

  pub file-ranged : ranged h ≡ Within → day_file f ≡ file_placed h f (placed h (length f))
  file-ranged range = file-headed ∙ ap (file_ranged h f) range

  pub file-placed : ranged h ≡ Within → placed h (length f) ≡ Right
      → day_file f ≡ file_enrolled h f (enrolled h.offsets.participants h.counts.participants f)
  file-placed range place = file-ranged range ∙ ap (file_placed h f) place

  pub file-accepted : ranged h ≡ Within → placed h (length f) ≡ Right
      → participants_ok h.offsets.participants h.counts.participants f ≡ true
      → routes_ok h.counts.participants h.offsets.routes h.counts.routes f ≡ true → day_file f ≡ accepted_file h f
  file-accepted range place participants routes =
      file-placed range place
      ∙ ap (λ (b : Bool). file_enrolled h f (cond b participants-are.Right participants-are.Wrong)) participants
      ∙ ap (λ (b : Bool). file_routed h f (cond b routes-are.Right routes-are.Wrong)) routes

-- a file that is not refused has passed all five
pub record Accepted (f : List ℕ) : Type 0 where
  pub header : Header
  pub head : headed f ≡ Some header
  pub range : CountsInRange header.counts
  pub place : InPlace header (length f)
  pub participants : participants_ok header.offsets.participants header.counts.participants f ≡ true
  pub routes : routes_ok header.counts.participants header.offsets.routes header.counts.routes f ≡ true
  pub file : day_file f ≡ accepted_file header f

-- or it is refused, with the empty roster
pub record Refused (f : List ℕ) : Type 0 where
  pub number : ℕ
  pub some : 1 ≤ number
  pub file : day_file f ≡ refused_file number

refused-by : (f : List ℕ) (n : ℕ) → 1 ≤ n → day_file f ≡ refused_file n → Accepted f ⊎ Refused f
refused-by f n h e = inr (record { number = n; some = h; file = e })

pub file-outcome : (f : List ℕ) → Accepted f ⊎ Refused f
file-outcome f = from-head (headed f) refl
  where
    from-routes : (h : Header) → headed f ≡ Some h → ranged h ≡ Within → placed h (length f) ≡ Right
        → (p : Bool) → participants_ok h.offsets.participants h.counts.participants f ≡ p
        → (r : Bool) → routes_ok h.counts.participants h.offsets.routes h.counts.routes f ≡ r → Accepted f ⊎ Refused f
    from-routes h e₁ e₂ e₃ true e₄ true e₅ =
        inl
        (record {
          header = h;
          head = e₁;
          range = counts-in-range h e₂;
          place = in_place h (length f) e₃;
          participants = e₄;
          routes = e₅;
          file = file-accepted f h e₁ e₂ e₃ e₄ e₅;
        })
    from-routes h e₁ e₂ e₃ true e₄ false e₅ =
        refused-by f 5 (omega arith)
        (file-placed f h e₁ e₂ e₃ ∙ ap (λ (b : Bool). file_enrolled h f (cond b participants-are.Right participants-are.Wrong)) e₄
        ∙ ap (λ (b : Bool). file_routed h f (cond b routes-are.Right routes-are.Wrong)) e₅)
    from-routes h e₁ e₂ e₃ false e₄ r e₅ =
        refused-by f 4 (omega arith)
        (file-placed f h e₁ e₂ e₃ ∙ ap (λ (b : Bool). file_enrolled h f (cond b participants-are.Right participants-are.Wrong)) e₄)

    from_place : (h : Header) → headed f ≡ Some h → ranged h ≡ Within → (p : Placed) → placed h (length f) ≡ p → Accepted f ⊎ Refused f
    from_place h e₁ e₂ Right e₃ = from-routes h e₁ e₂ e₃ _ refl _ refl
    from_place h e₁ e₂ Wrong e₃ = refused-by f 3 (omega arith) (file-ranged f h e₁ e₂ ∙ ap (file_placed h f) e₃)

    from-range : (h : Header) → headed f ≡ Some h → (r : Ranged) → ranged h ≡ r → Accepted f ⊎ Refused f
    from-range h e₁ Within e₂ = from_place h e₁ e₂ (placed h (length f)) refl
    from-range h e₁ Outside e₂ = refused-by f 2 (omega arith) (file-headed f h e₁ ∙ ap (file_ranged h f) e₂)

    from-head : (h : Option Header) → headed f ≡ h → Accepted f ⊎ Refused f
    from-head (Some h) e = from-range h e (ranged h) refl
    from-head None e = refused-by f 1 (omega arith) (file-is-headed f ∙ ap (file_headed f) e)

pub passing-accepted : (f : List ℕ) → (day_file f).refusal ≡ 0 → Accepted f
passing-accepted f z =
    ⊎_elim (λ (a : Accepted f). a)
    (λ (r : Refused f). absurd (let e = r.some in let w = ap (λ (d : DayFile). d.refusal) r.file in omega arith)) (file-outcome f)
