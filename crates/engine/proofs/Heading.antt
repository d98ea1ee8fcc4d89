-- At the head of the loop over tickets: the buffers have their lengths, and there is room for the ticket at hand, or none.
-- Assumes nothing.
--     ticket_at                the ticket at hand, as it is cut out; ticket_is: it is the next of the tickets
--     bytes-long, text-long    the buffers keep their lengths
--     none_more                there is no room
--     more, room               there is
--     whole-ticket             and then the ticket is whole
use Rattle.std.specs.Prelude.{◌≡◌, ℕ, ◌+◌, ◌-◌, ◌*◌, Bool, true, false, List, length, take, drop}
use mathlib.Core.Path.{sym, ◌∙◌, ap, ap₂}
use native.Mathlib.Omega.{arith}
use Rattle.fields.proofs.Stores.{length_part}
use Rattle.rules.specs.declared.Book.{Book}
use Rattle.course.specs.Running.{room_left}
use Rattle.course.proofs.Running.{Going, RoomFor, room-left, answers-long, reports-long}

abbrev pub ticket_at : List ℕ → ℕ → List ℕ
ticket_at tickets k = take (108 * k + 108 - 108 * k) (drop (108 * k) tickets)

pub ticket_is : (tickets : List ℕ) (k : ℕ) → ticket_at tickets k ≡ take 108 (drop (108 * k) tickets)
ticket_is tickets k =
    let e : 108 * k + 108 - 108 * k ≡ 108 = omega arith in
    ap (λ (n : ℕ). take n (drop (108 * k) tickets)) e

module _ {b₀ : Book} {tickets answers₀ reports₀ : List ℕ} {b : Book} {k n : ℕ} {bytes text : List ℕ}
    (g : Going b₀ tickets answers₀ reports₀ b k n bytes text) where
  pub bytes-long : length bytes ≡ length answers₀
  bytes-long = answers-long b₀ tickets answers₀ reports₀ g

  pub text-long : length text ≡ length reports₀
  text-long = reports-long b₀ tickets answers₀ reports₀ g

  -- whether there is room, as it is asked
  module _ {has : Bool} (is : has ≡ room_left (length tickets - 108 * k) (length bytes - 4 * k) (length text - 12 * n)) where
    asked : has ≡ room_left (length tickets - 108 * k) (length answers₀ - 4 * k) (length reports₀ - 12 * n)
    asked =
        is
        ∙ ap₂ (λ (a r : ℕ). room_left (length tickets - 108 * k) (a - 4 * k) (r - 12 * n)) bytes-long text-long

    pub none_more : has ≡ false → room_left (length tickets - 108 * k) (length answers₀ - 4 * k) (length reports₀ - 12 * n) ≡ false
    none_more e = sym asked ∙ e

    module _ (e : has ≡ true) where
      pub more : room_left (length tickets - 108 * k) (length answers₀ - 4 * k) (length reports₀ - 12 * n) ≡ true
      more = sym asked ∙ e

      pub room : RoomFor (length tickets - 108 * k) (length answers₀ - 4 * k) (length reports₀ - 12 * n)
      room = room-left _ _ _ more

      pub whole-ticket : length (ticket_at tickets k) ≡ 108
      whole-ticket = ap length (ticket_is tickets k) ∙ length_part 108 (108 * k) tickets (let r = room.ticket in omega arith)
