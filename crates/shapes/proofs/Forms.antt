-- The shape of a ticket by what its kind names: ranges that a kind does not list are blank as one. Assumes nothing.
use Rattle.std.specs.Bool.{then_some}
use Rattle.std.specs.Prelude.{None, Option, Some}
use mathlib.Core.Path.{◌≡◌, refl, sym, ◌∙◌, ap}
use mathlib.Core.Bool.{Bool, true, false, ◌&&◌, ◌||◌, not, cond, and-true}
use mathlib.Core.List.{List}
use Prim.Native.Nat.{ℕ}
use native.Mathlib.Omega.{arith}
use borrow.Author.Tests.{eq-eqb}
use lib.Dec.{eqb}
use lib.ListN.{length}
use Rattle.fields.specs.Number.{part}
use Rattle.fields.specs.Text.{blank}
use Rattle.fields.proofs.Zeros.{blank_join}
use Rattle.codes.specs.Bic.{is_bic}
use Rattle.codes.specs.Txid.{is_txid}
use Rattle.ticket.specs.TicketLayout as layout
use Rattle.ticket.specs.Kind.{kind_number}
use Rattle.ticket.specs.Form.{form_of}
use Rattle.ticket.specs.Shape.{well_formed, shape_of, account_of}
use Rattle.ticket.specs.declared.kinds.Kind.{Kind}
use Rattle.ticket.specs.declared.kinds.Kind.TheVariants as kind
use Rattle.ticket.specs.declared.shapes.Account.TheVariants.{Named}
use Rattle.rules.specs.Terms.{terms_of, opens_order}
use Rattle.rules.specs.declared.terms.Subject.{Subject}
use Rattle.rules.specs.declared.terms.Subject.TheVariants.{Nothing, Sender, NewOrder, HeldOrder}
use Rattle.shapes.specs.Subject.{TicketNaming}

-- the ranges, field by field
from-iban : (t : List ℕ) → blank (part 35 73 t) ≡ (blank (layout.iban_field t) && blank (layout.last_field t))
from-iban t = blank_join 34 1 73 t

from-payee : (t : List ℕ) → blank (part 81 27 t)
    ≡ (blank (layout.payee_of t) && blank (layout.txid_field t) && blank (layout.iban_field t) && blank (layout.last_field t))
from-payee t = simp (blank_join 80 1 27 t, blank_join 46 34 27 t, blank_join 11 35 27 t)

from-amount : (t : List ℕ) → blank (part 100 8 t) ≡ (blank (layout.amount_field t) && blank (layout.sender_of t) && blank (part 81 27 t))
from-amount t = simp (blank_join 19 81 8 t, blank_join 8 11 8 t)

-- the fields one after the other, as the code joins them
in-nothing : (a n s p x i l : Bool) → (a && n && s && p && x && i && l) ≡ (a && (n && s && (p && x && i && l)))
in-nothing true true true p x i l = refl
in-nothing true true false p x i l = refl
in-nothing true false s p x i l = refl
in-nothing false n s p x i l = refl

in-cover : (a s p x i l : Bool) → (a && true && s && p && x && i && l) ≡ (a && s && (p && x && i && l))
in-cover true true p x i l = refl
in-cover true false p x i l = refl
in-cover false s p x i l = refl

in-about : (a p x i l : Bool) → (a && p && x && i && l) ≡ (a && (p && x) && (i && l))
in-about true true true i l = refl
in-about true true false i l = refl
in-about true false x i l = refl
in-about false p x i l = refl

in_order : (a s p x l : Bool) → (a && true && s && p && x && true && l) ≡ (a && s && p && x && l)
in_order a s p x l = simp (and-true a, and-true (a && s && p && x))

-- two subjects that differ
differ : {A : Type 0} → ◌≡◌ {A = ℕ} 0 1 → A
differ e = absurd (omega arith)

-- what makes the form of a kind that names nothing
pub nothing-formed : (k : Kind) (t : List ℕ) → (terms_of k).subject ≡ Nothing
    → well_formed (form_of k) t ≡ (blank (layout.spare_field t) && blank (part 100 8 t))
nothing-formed k t = go k
  where
    form : (blank (layout.spare_field t) && blank (layout.amount_field t) && blank (layout.sender_of t) && blank (layout.payee_of t)
        && blank (layout.txid_field t) && blank (layout.iban_field t) && blank (layout.last_field t))
        ≡ (blank (layout.spare_field t) && blank (part 100 8 t))
    form =
        in-nothing (blank (layout.spare_field t)) (blank (layout.amount_field t)) (blank (layout.sender_of t)) (blank (layout.payee_of t))
        (blank (layout.txid_field t)) (blank (layout.iban_field t)) (blank (layout.last_field t))
        ∙ ap (◌&&◌ (blank (layout.spare_field t)))
        (sym (from-amount t ∙ ap (◌&&◌ (blank (layout.amount_field t) && blank (layout.sender_of t))) (from-payee t)))

    go : (k : Kind) → (terms_of k).subject ≡ Nothing → well_formed (form_of k) t ≡ (blank (layout.spare_field t) && blank (part 100 8 t))
    go kind.CoverIn e = differ cc
    go kind.CoverOut e = differ cc
    go kind.Order e = differ cc
    go kind.Yes e = differ cc
    go kind.No e = differ cc
    go kind.Recall e = differ cc
    go kind.Return e = differ cc
    go kind.Decline e = differ cc
    go kind.Inquiry e = differ cc
    go kind.Cut e = form
    go kind.Confirm e = differ cc
    go kind.Tick e = form

-- .. a sender
pub cover-formed : (k : Kind) (t : List ℕ) → (terms_of k).subject ≡ Sender
    → well_formed (form_of k) t ≡ (blank (layout.spare_field t) && is_bic (layout.sender_of t) && blank (part 81 27 t))
cover-formed k t = go k
  where
    form : (blank (layout.spare_field t) && true && is_bic (layout.sender_of t) && blank (layout.payee_of t)
        && blank (layout.txid_field t) && blank (layout.iban_field t) && blank (layout.last_field t))
        ≡ (blank (layout.spare_field t) && is_bic (layout.sender_of t) && blank (part 81 27 t))
    form =
        in-cover (blank (layout.spare_field t)) (is_bic (layout.sender_of t)) (blank (layout.payee_of t))
        (blank (layout.txid_field t)) (blank (layout.iban_field t)) (blank (layout.last_field t))
        ∙ ap (◌&&◌ (blank (layout.spare_field t) && is_bic (layout.sender_of t))) (sym (from-payee t))

    go : (k : Kind) → (terms_of k).subject ≡ Sender
        → well_formed (form_of k) t ≡ (blank (layout.spare_field t) && is_bic (layout.sender_of t) && blank (part 81 27 t))
    go kind.CoverIn e = form
    go kind.CoverOut e = form
    go kind.Order e = differ cc
    go kind.Yes e = differ cc
    go kind.No e = differ cc
    go kind.Recall e = differ cc
    go kind.Return e = differ cc
    go kind.Decline e = differ cc
    go kind.Inquiry e = differ cc
    go kind.Cut e = differ cc
    go kind.Confirm e = form
    go kind.Tick e = differ cc

-- .. an order that is held
pub about-formed : (k : Kind) (t : List ℕ) → (terms_of k).subject ≡ HeldOrder
    → well_formed (form_of k) t
    ≡ (blank (layout.spare_field t) && (not (eqb (form_of k).most 0) || blank (layout.amount_field t)) && is_bic (layout.sender_of t)
    && (is_bic (layout.payee_of t) && is_txid (layout.txid_of t)) && blank (part 35 73 t))
about-formed k t = go k
  where
    form : (n : Bool)
        → (blank (layout.spare_field t) && n && is_bic (layout.sender_of t) && is_bic (layout.payee_of t) && is_txid (layout.txid_of t)
        && blank (layout.iban_field t) && blank (layout.last_field t))
        ≡ (blank (layout.spare_field t) && n && is_bic (layout.sender_of t) && (is_bic (layout.payee_of t) && is_txid (layout.txid_of t))
        && blank (part 35 73 t))
    form n =
        in-about (blank (layout.spare_field t) && n && is_bic (layout.sender_of t)) (is_bic (layout.payee_of t)) (is_txid (layout.txid_of t))
        (blank (layout.iban_field t)) (blank (layout.last_field t))
        ∙ ap (λ (z : Bool). blank (layout.spare_field t) && n && is_bic (layout.sender_of t)
        && (is_bic (layout.payee_of t) && is_txid (layout.txid_of t)) && z)
        (sym (from-iban t))

    go : (k : Kind) → (terms_of k).subject ≡ HeldOrder
        → well_formed (form_of k) t
        ≡ (blank (layout.spare_field t) && (not (eqb (form_of k).most 0) || blank (layout.amount_field t)) && is_bic (layout.sender_of t)
        && (is_bic (layout.payee_of t) && is_txid (layout.txid_of t)) && blank (part 35 73 t))
    go kind.CoverIn e = differ cc
    go kind.CoverOut e = differ cc
    go kind.Order e = differ cc
    go kind.Yes e = form (blank (layout.amount_field t))
    go kind.No e = form (blank (layout.amount_field t))
    go kind.Recall e = form (blank (layout.amount_field t))
    go kind.Return e = form true
    go kind.Decline e = form (blank (layout.amount_field t))
    go kind.Inquiry e = form (blank (layout.amount_field t))
    go kind.Cut e = differ cc
    go kind.Confirm e = differ cc
    go kind.Tick e = differ cc

-- .. a new order
pub order-formed : (t : List ℕ)
    → well_formed (form_of kind.Order) t
    ≡ (blank (layout.spare_field t) && is_bic (layout.sender_of t) && is_bic (layout.payee_of t) && is_txid (layout.txid_of t)
    && blank (layout.last_field t))
order-formed t =
    in_order (blank (layout.spare_field t)) (is_bic (layout.sender_of t)) (is_bic (layout.payee_of t)) (is_txid (layout.txid_of t))
    (blank (layout.last_field t))

pub only-order : (k : Kind) → (terms_of k).subject ≡ NewOrder → k ≡ kind.Order
only-order kind.CoverIn e = differ cc
only-order kind.CoverOut e = differ cc
only-order kind.Order e = refl
only-order kind.Yes e = differ cc
only-order kind.No e = differ cc
only-order kind.Recall e = differ cc
only-order kind.Return e = differ cc
only-order kind.Decline e = differ cc
only-order kind.Inquiry e = differ cc
only-order kind.Cut e = differ cc
only-order kind.Confirm e = differ cc
only-order kind.Tick e = differ cc

-- a kind that names an order that is held is not kind 3
pub none-new : (k : Kind) → (terms_of k).subject ≡ HeldOrder → eqb (kind_number k) 3 ≡ false
none-new kind.CoverIn e = refl
none-new kind.CoverOut e = refl
none-new kind.Order e = differ cc
none-new kind.Yes e = refl
none-new kind.No e = refl
none-new kind.Recall e = refl
none-new kind.Return e = refl
none-new kind.Decline e = refl
none-new kind.Inquiry e = refl
none-new kind.Cut e = refl
none-new kind.Confirm e = refl
none-new kind.Tick e = refl

-- the shape of a ticket whose kind is known
pub shape_is : (s : Subject) (k : Kind) (t : List ℕ) → TicketNaming s k t
    → (b : Bool) → well_formed (form_of k) t ≡ b → shape_of t ≡ cond b (Some k) None
shape_is s k t n b e = simp (eq-eqb (length t) layout.ticket_length n.whole, n.kinds, e)

-- one that is formed is of its kind
pub formed-kind : (s : Subject) (k : Kind) (t : List ℕ) → TicketNaming s k t → (j : Kind) → shape_of t ≡ Some j → shape_of t ≡ Some k
formed-kind s k t n j e = go (well_formed (form_of k) t) refl
  where
    go : (b : Bool) → well_formed (form_of k) t ≡ b → shape_of t ≡ Some k
    go true w = shape_is s k t n true w
    go false w = let z : ◌≡◌ {A = Option Kind} None (Some j) = sym (shape_is s k t n false w) ∙ e in differ cc

-- only an order has an account
pub no-account : (k : Kind) (t : List ℕ) → opens_order (terms_of k).subject ≡ false → account_of (form_of k) t ≡ Named
no-account kind.CoverIn t e = refl
no-account kind.CoverOut t e = refl
no-account kind.Order t e = differ cc
no-account kind.Yes t e = refl
no-account kind.No t e = refl
no-account kind.Recall t e = refl
no-account kind.Return t e = refl
no-account kind.Decline t e = refl
no-account kind.Inquiry t e = refl
no-account kind.Cut t e = refl
no-account kind.Confirm t e = refl
no-account kind.Tick t e = refl

-- a kind where the test is passed
pub then-cond : (b : Bool) (k : Kind) → then_some b k ≡ cond b (Some k) None
then-cond true k = refl
then-cond false k = refl
