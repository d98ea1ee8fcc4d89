-- What the checks of a ticket tell. Assumes nothing.
use Rattle.std.specs.Prelude.{Err, None, Option, Some}
use mathlib.Core.Path.{◌≡◌, refl, ◌∙◌, ap}
use mathlib.Core.Bool.{Bool, true, false}
use mathlib.Core.List.{List}
use Prim.Native.Nat.{ℕ}
use borrow.Author.Tests.{eqb-true}
use lib.Dec.{eqb}
use lib.ListN.{length}
use Rattle.ticket.specs.TicketLayout.{ticket_length}
use Rattle.ticket.specs.Form.{form_of}
use Rattle.ticket.specs.Shape.{shape_of, account_of}
use Rattle.ticket.specs.Amount.{stated_in, limit_of}
use Rattle.ticket.specs.TicketReading.{reading, read_shape, read_account, read_stated, read_limit}
use Rattle.ticket.specs.declared.kinds.Kind.{Kind}
use Rattle.ticket.specs.declared.shapes.Account.TheVariants.{Named}

-- the length of a ticket with a shape
pub formed-length : (t : List ℕ) (k : Kind) → shape_of t ≡ Some k → length t ≡ ticket_length
formed-length t k e = go (eqb (length t) ticket_length) refl
  where
    go : (b : Bool) → eqb (length t) ticket_length ≡ b → length t ≡ ticket_length
    go true a = eqb-true (length t) ticket_length a
    go false a = let e' : ◌≡◌ {A = Option Kind} None (Some k) = rw a at e in cc

-- the checks one after the other
module _ (t : List ℕ) (k : Kind) (formed : shape_of t ≡ Some k) where
  pub read-formed : reading t ≡ read_account k t (account_of (form_of k) t)
  unfolding reading
  read-formed = ap (read_shape t) formed

  pub read_named : account_of (form_of k) t ≡ Named → reading t ≡ read_stated k t (stated_in (form_of k) t)
  read_named named = read-formed ∙ ap (read_account k t) named

  pub read-stated : (n : ℕ) → account_of (form_of k) t ≡ Named → stated_in (form_of k) t ≡ Some n
      → reading t ≡ read_limit k t n (limit_of (form_of k) n)
  read-stated n named stated = read_named named ∙ ap (read_stated k t) stated

pub read-malformed : (t : List ℕ) → shape_of t ≡ None → reading t ≡ Err 7
unfolding reading
read-malformed t e = ap (read_shape t) e
