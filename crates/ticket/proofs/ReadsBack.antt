-- A well-formed ticket that was written reads back. Assumes nothing.
use Rattle.std.specs.Prelude.{Ok, Some}
use mathlib.Core.Path.{◌≡◌, refl, ◌∙◌, ap}
use mathlib.Core.Bool.{Bool, true, false, not, cond}
use mathlib.Core.List.{List}
use Prim.Native.Nat.{ℕ, ◌^◌, ◌≤◌, ◌<◌}
use native.Mathlib.Omega.{arith}
use borrow.Author.Tests.{eqb-true, eq-eqb, le-ltb}
use lib.Dec.{eqb}
use lib.ListN.{length}
use Rattle.codes.specs.Bic.{is_bic}
use Rattle.iban.specs.Iban.{is_iban}
use Rattle.codes.specs.Txid.{is_txid}
use Rattle.fields.specs.Number.{bytes_of}
use Rattle.fields.specs.Text.{blank, unpadded, padded}
use Rattle.fields.proofs.Padding.{padded-full, unpadded-padded}
use Rattle.codes.proofs.WholeCodes.{bic-length, txid-length, txid-whole}
use Rattle.iban.proofs.WholeIban.{iban-length, iban-whole}
use Rattle.ticket.specs.TicketLayout as layout
use Rattle.ticket.specs.Form.{most_cover, form_of}
use Rattle.ticket.specs.Shape.{bic_if_listed, txid_if_listed, blank_unless_listed, well_formed, shape_of, account_of}
use Rattle.ticket.specs.Amount.{stated_in, limit_of}
use Rattle.ticket.specs.TicketReading.{reading, read_limit}
use Rattle.ticket.specs.TicketWriting.{WrittenTicket, ticket_bytes, IfListed, WellFormedTicket}
use Rattle.ticket.specs.declared.kinds.Kind.{Kind}
use Rattle.ticket.specs.declared.kinds.Kind.TheVariants.{
  CoverIn,
  CoverOut,
  Order,
  Yes,
  No,
  Recall,
  Return,
  Decline,
  Inquiry,
  Cut,
  Confirm,
  Tick,
}
use Rattle.ticket.specs.declared.shapes.Account.TheVariants.{Named, Wrong}
use Rattle.ticket.specs.declared.amounts.Limit.TheVariants.{Within}
use Rattle.ticket.proofs.KindBytes.{bytes-kinded}
use Rattle.ticket.proofs.CheckLaws.{read-stated}
use Rattle.ticket.proofs.WrittenFields.{
  written-time,
  written-amount,
  sender-field,
  payee-field,
  txid-field,
  iban-field,
  last-field,
  length-written,
}

-- each kind's amounts fit in eight bytes
most-fits : (k : Kind) → (form_of k).most ≤ most_cover
most-fits CoverIn = omega arith
most-fits CoverOut = omega arith
most-fits Order = omega arith
most-fits Yes = omega arith
most-fits No = omega arith
most-fits Recall = omega arith
most-fits Return = omega arith
most-fits Decline = omega arith
most-fits Inquiry = omega arith
most-fits Cut = omega arith
most-fits Confirm = omega arith
most-fits Tick = omega arith

-- the widths of what is listed, or not
bic-width : (listed : Bool) (s : List ℕ) → IfListed listed is_bic s → length s ≤ 11
bic-width true s e = let l = bic-length s e in omega arith
bic-width false s e = rw e (omega arith)

txid-width : (listed : Bool) (s : List ℕ) → IfListed listed is_txid s → length s ≤ 35
txid-width true s e = txid-length s e
txid-width false s e = rw e (omega arith)

iban-width : (listed : Bool) (s : List ℕ) → IfListed listed is_iban s → length s ≤ 34
iban-width true s e = iban-length s e
iban-width false s e = rw e (omega arith)

-- each field's check
bic-passes : (listed : Bool) (s : List ℕ) → IfListed listed is_bic s → bic_if_listed listed (padded 11 s) ≡ true
bic-passes true s e = ap is_bic (padded-full 11 s (bic-length s e)) ∙ e
bic-passes false s e = ap (λ (t : List ℕ). blank (padded 11 t)) e

txid-passes : (listed : Bool) (s : List ℕ) → IfListed listed is_txid s → txid_if_listed listed (padded 35 s) ≡ true
txid-passes true s e = ap is_txid (unpadded-padded 35 s ∙ txid-whole s e) ∙ e
txid-passes false s e = ap (λ (t : List ℕ). blank (padded 35 t)) e

iban-passes : (listed : Bool) (s : List ℕ) → IfListed listed is_iban s → blank_unless_listed listed (padded 34 s) ≡ true
iban-passes true s e = refl
iban-passes false s e = ap (λ (t : List ℕ). blank (padded 34 t)) e

account-passes : (listed : Bool) (s : List ℕ) → IfListed listed is_iban s
    → cond listed (cond (is_iban (unpadded (padded 34 s))) Named Wrong) Named ≡ Named
account-passes true s e = rw (unpadded-padded 34 s, iban-whole s e, e)
account-passes false s e = refl

amount-passes : (most n : ℕ) → n ≤ most → blank_unless_listed (not (eqb most 0)) (bytes_of 8 n) ≡ true
amount-passes most n h = go (eqb most 0) refl
  where
    go : (b : Bool) → eqb most 0 ≡ b → blank_unless_listed (not b) (bytes_of 8 n) ≡ true
    go true e = let z = eqb-true most 0 e in let none : n ≡ 0 = omega arith in ap (λ (m : ℕ). blank (bytes_of 8 m)) none
    go false e = refl

-- a well-formed ticket: its widths, each check in turn, and what it reads as
module _ (k : Kind) (w : WrittenTicket) (f : WellFormedTicket k w) where
  sender-fits : length w.sender ≤ 11
  sender-fits = bic-width (form_of k).sender w.sender f.sender

  payee-fits : length w.payee ≤ 11
  payee-fits = bic-width (form_of k).payee w.payee f.payee

  txid-fits : length w.txid ≤ 35
  txid-fits = txid-width (form_of k).txid w.txid f.txid

  iban-fits : length w.iban ≤ 34
  iban-fits = iban-width (form_of k).iban w.iban f.iban

  amount-fits : w.amount < 256 ^ 8
  amount-fits = let a = f.most in let b = most-fits k in omega arith

  whole : length (ticket_bytes w) ≡ layout.ticket_length
  whole = length-written w sender-fits payee-fits txid-fits iban-fits

  fields-pass : well_formed (form_of k) (ticket_bytes w) ≡ true
  fields-pass =
      simp (
        amount-passes (form_of k).most w.amount f.most,
        ap (bic_if_listed (form_of k).sender) (sender-field w sender-fits) ∙ bic-passes (form_of k).sender w.sender f.sender,
        ap (bic_if_listed (form_of k).payee) (payee-field w sender-fits payee-fits) ∙ bic-passes (form_of k).payee w.payee f.payee,
        ap (txid_if_listed (form_of k).txid) (txid-field w sender-fits payee-fits txid-fits)
            ∙ txid-passes (form_of k).txid w.txid f.txid,
        ap (blank_unless_listed (form_of k).iban) (iban-field w sender-fits payee-fits txid-fits iban-fits)
            ∙ iban-passes (form_of k).iban w.iban f.iban,
        ap (blank_unless_listed false) (last-field w sender-fits payee-fits txid-fits iban-fits),
      )

  formed : shape_of (ticket_bytes w) ≡ Some k
  formed =
      simp (
        eq-eqb (length (ticket_bytes w)) layout.ticket_length whole,
        bytes-kinded w.kind w.flag k (record { number = f.kind; low = f.low; high = f.high }),
        fields-pass,
      )

  stated : stated_in (form_of k) (ticket_bytes w) ≡ Some w.amount
  stated = rw (written-amount w amount-fits) (simp (le-ltb w.amount (form_of k).least f.least))

  named : account_of (form_of k) (ticket_bytes w) ≡ Named
  named =
      ap (λ (s : List ℕ). cond (form_of k).iban (cond (is_iban (unpadded s)) Named Wrong) Named)
      (iban-field w sender-fits payee-fits txid-fits iban-fits)
      ∙ account-passes (form_of k).iban w.iban f.iban

  within : limit_of (form_of k) w.amount ≡ Within
  within = simp (le-ltb (form_of k).most w.amount f.most)

  pub written-reads : reading (ticket_bytes w) ≡ Ok (record { kind = k; time = w.time; amount = w.amount })
  written-reads =
      read-stated (ticket_bytes w) k formed w.amount named stated
      ∙ ap (read_limit k (ticket_bytes w) w.amount) within
      ∙ ap (λ (n : ℕ). Ok (record { kind = k; time = n; amount = w.amount })) (written-time w f.time)
