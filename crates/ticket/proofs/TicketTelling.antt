-- What a ticket that reads tells. Assumes nothing.
use Rattle.std.specs.Prelude.{Err, None, Ok, Option, Result, Some, ℕ}
use mathlib.Core.Path.{◌≡◌, refl, sym, ◌∙◌, ap}
use mathlib.Core.Bool.{Bool, true, false, ◌&&◌, not, cond}
use mathlib.Core.List.{List}
use Prim.Native.Nat.{ℕ, ◌≤◌}
use native.Mathlib.Omega.{arith}
use borrow.Author.Tests.{ltb-false}
use lib.Dec.{ltb, eqb}
use lib.ListN.{length}
use Rattle.codes.specs.Txid.{is_txid}
use Rattle.fields.proofs.Tests.{and_left, and_right}
use Rattle.ticket.specs.TicketLayout as layout
use Rattle.ticket.specs.Kind.{kind_number, kinded}
use Rattle.ticket.specs.Form.{form_of}
use Rattle.ticket.specs.Shape.{bic_if_listed, txid_if_listed, blank_unless_listed, well_formed, shape_as, shape_of, account_of}
use Rattle.ticket.specs.Amount.{stated_in, limit_of}
use Rattle.ticket.specs.TicketReading.{reading, read_account, read_stated, read_limit}
use Rattle.ticket.specs.declared.Fields.{Fields}
use Rattle.ticket.specs.declared.kinds.Kind.{Kind}
use Rattle.ticket.specs.declared.shapes.Account.{Account}
use Rattle.ticket.specs.declared.shapes.Account.TheVariants.{Named, Wrong}
use Rattle.ticket.specs.declared.amounts.Limit.{Limit}
use Rattle.ticket.specs.declared.amounts.Limit.TheVariants.{Within, Above}
use Rattle.ticket.proofs.KindBytes.{KindBytes, kinded-tells}
use Rattle.ticket.proofs.CheckLaws.{formed-length, read-malformed, read-formed, read_named, read-stated}

pub record Tells (t : List ℕ) (f : Fields) : Type 0 where
  pub whole : length t ≡ layout.ticket_length
  pub kind : kinded (layout.kind_byte t) (layout.flag_byte t) ≡ Some f.kind
  pub formed : well_formed (form_of f.kind) t ≡ true
  pub time : f.time ≡ layout.time_of t
  pub amount : f.amount ≡ layout.amount_of t
  pub least : (form_of f.kind).least ≤ f.amount
  pub most : f.amount ≤ (form_of f.kind).most

-- a shape that was found
pub record Shaped (t : List ℕ) (k : Kind) : Type 0 where
  pub kind : kinded (layout.kind_byte t) (layout.flag_byte t) ≡ Some k
  pub formed : well_formed (form_of k) t ≡ true

pub shaped : (t : List ℕ) (k : Kind) → shape_of t ≡ Some k → Shaped t k
shaped t k e = whole (eqb (length t) layout.ticket_length) refl
  where
    is : (k' : Kind) → kinded (layout.kind_byte t) (layout.flag_byte t) ≡ Some k' → (b : Bool) → well_formed (form_of k') t ≡ b
        → ◌≡◌ {A = Option Kind} (cond b (Some k') None) (Some k) → Shaped t k
    is k' a true w q =
        let same : k' ≡ k = cc in
        record { kind = rw same at a; formed = rw same at w }
    is k' a false w q = let z : ◌≡◌ {A = ℕ} 0 1 = cc in absurd (omega arith)

    from : (d : Option Kind) → kinded (layout.kind_byte t) (layout.flag_byte t) ≡ d → shape_as d t ≡ Some k → Shaped t k
    from (Some k') a q = is k' a (well_formed (form_of k') t) refl q
    from None a q = let z : ◌≡◌ {A = ℕ} 0 1 = cc in absurd (omega arith)

    whole : (b : Bool) → eqb (length t) layout.ticket_length ≡ b → Shaped t k
    whole true a = from (kinded (layout.kind_byte t) (layout.flag_byte t)) refl (rw a at e)
    whole false a = let e' : ◌≡◌ {A = Option Kind} None (Some k) = rw a at e in let z : ◌≡◌ {A = ℕ} 0 1 = cc in absurd (omega arith)

-- the amount that was found
module _ (t : List ℕ) (k : Kind) where
  stated-tells : (n : ℕ) → stated_in (form_of k) t ≡ Some n → (n ≡ layout.amount_of t) × ((form_of k).least ≤ n)
  stated-tells n e = go (ltb (layout.amount_of t) (form_of k).least) refl
    where
      go : (b : Bool) → ltb (layout.amount_of t) (form_of k).least ≡ b → (n ≡ layout.amount_of t) × ((form_of k).least ≤ n)
      go true a = let e' : ◌≡◌ {A = Option ℕ} None (Some n) = rw a at e in let z : ◌≡◌ {A = ℕ} 0 1 = cc in absurd (omega arith)
      go false a =
          let e' : ◌≡◌ {A = Option ℕ} (Some (layout.amount_of t)) (Some n) = rw a at e in
          let q : n ≡ layout.amount_of t = cc in
          let l = ltb-false (layout.amount_of t) (form_of k).least a in
          (q, omega arith)

  limit-tells : (n : ℕ) → limit_of (form_of k) n ≡ Within → n ≤ (form_of k).most
  limit-tells n e = go (ltb (form_of k).most n) refl
    where
      go : (b : Bool) → ltb (form_of k).most n ≡ b → n ≤ (form_of k).most
      go true a = let e' : ◌≡◌ {A = Limit} Above Within = rw a at e in let z : ◌≡◌ {A = ℕ} 0 1 = cc in absurd (omega arith)
      go false a = ltb-false (form_of k).most n a

pub read-tells : (t : List ℕ) (f : Fields) → reading t ≡ Ok f → Tells t f
read-tells t f e = from-shape (shape_of t) refl
  where
    -- a refusal is no reading
    not-read : (n : ℕ) → reading t ≡ Err n → Tells t f
    not-read n q = let e' : ◌≡◌ {A = Result Fields ℕ} (Err n) (Ok f) = sym q ∙ e in let z : ◌≡◌ {A = ℕ} 0 1 = cc in absurd (omega arith)

    from-limit : (k : Kind) → shape_of t ≡ Some k → account_of (form_of k) t ≡ Named → (n : ℕ) → stated_in (form_of k) t ≡ Some n
        → (l : Limit) → limit_of (form_of k) n ≡ l → Tells t f
    from-limit k e₁ e₂ n e₃ Within e₄ =
        let read : reading t ≡ Ok (record { kind = k; time = layout.time_of t; amount = n }) = read-stated t k e₁ n e₂ e₃
        ∙ ap (read_limit k t n) e₄ in
        let both : ◌≡◌ {A = Result Fields ℕ} (Ok (record { kind = k; time = layout.time_of t; amount = n })) (Ok f) = sym read ∙ e in
        let is : ◌≡◌ {A = Fields} (record { kind = k; time = layout.time_of t; amount = n }) f = cc in
        let s = shaped t k e₁ in
        let a = stated-tells t k n e₃ in
        rw (← is)
        (record {
          whole = formed-length t k e₁;
          kind = s.kind;
          formed = s.formed;
          time = refl;
          amount = a.0;
          least = a.1;
          most = limit-tells t k n e₄;
        })
    from-limit k e₁ e₂ n e₃ Above e₄ = not-read 10 (read-stated t k e₁ n e₂ e₃ ∙ ap (read_limit k t n) e₄)

    from-stated : (k : Kind) → shape_of t ≡ Some k → account_of (form_of k) t ≡ Named → (a : Option ℕ) → stated_in (form_of k) t ≡ a → Tells t f
    from-stated k e₁ e₂ (Some n) e₃ = from-limit k e₁ e₂ n e₃ (limit_of (form_of k) n) refl
    from-stated k e₁ e₂ None e₃ = not-read 9 (read_named t k e₁ e₂ ∙ ap (read_stated k t) e₃)

    from-account : (k : Kind) → shape_of t ≡ Some k → (a : Account) → account_of (form_of k) t ≡ a → Tells t f
    from-account k e₁ Named e₂ = from-stated k e₁ e₂ (stated_in (form_of k) t) refl
    from-account k e₁ Wrong e₂ = not-read 8 (read-formed t k e₁ ∙ ap (read_account k t) e₂)

    from-shape : (s : Option Kind) → shape_of t ≡ s → Tells t f
    from-shape (Some k) e₁ = from-account k e₁ (account_of (form_of k) t) refl
    from-shape None e₁ = not-read 7 (read-malformed t e₁)

-- it has the shape of its kind
pub tells-shape : (t : List ℕ) (f : Fields) → Tells t f → shape_of t ≡ Some f.kind
tells-shape t f tells = rw (tells.whole, tells.kind, tells.formed)

-- its TxId passes the test of the form
pub tested-txid : (t : List ℕ) (f : Fields) → Tells t f → txid_if_listed (form_of f.kind).txid (layout.txid_field t) ≡ true
tested-txid t f tells = and_right before (txid_if_listed (form_of f.kind).txid (layout.txid_field t)) to-txid
  where
    before : Bool
    before =
        blank_unless_listed false (layout.spare_field t)
        && blank_unless_listed (not (eqb (form_of f.kind).most 0)) (layout.amount_field t)
        && bic_if_listed (form_of f.kind).sender (layout.sender_of t)
        && bic_if_listed (form_of f.kind).payee (layout.payee_of t)

    to-txid : (before && txid_if_listed (form_of f.kind).txid (layout.txid_field t)) ≡ true
    to-txid =
        and_left (before && txid_if_listed (form_of f.kind).txid (layout.txid_field t))
        (blank_unless_listed (form_of f.kind).iban (layout.iban_field t))
        (and_left
        (before && txid_if_listed (form_of f.kind).txid (layout.txid_field t)
        && blank_unless_listed (form_of f.kind).iban (layout.iban_field t))
        (blank_unless_listed false (layout.last_field t))
        tells.formed)

-- a TxId that is listed is one
pub listed-txid : (t : List ℕ) (f : Fields) → Tells t f → (form_of f.kind).txid ≡ true → is_txid (layout.txid_of t) ≡ true
listed-txid t f tells listed = rw listed at (tested-txid t f tells)

-- its kind and flag bytes are those of its kind
pub tells-bytes : (t : List ℕ) (f : Fields) → Tells t f → KindBytes f.kind (layout.kind_byte t) (layout.flag_byte t)
tells-bytes t f tells = kinded-tells (layout.kind_byte t) (layout.flag_byte t) f.kind tells.kind

-- 02, slip 6: the payer that it names
pub payer-named : (t : List ℕ) (k : Kind) → kinded (layout.kind_byte t) (layout.flag_byte t) ≡ Some k
    → layout.payer_of t ≡ cond (eqb (kind_number k) 3) (layout.sender_of t) (layout.payee_of t)
payer-named t k e =
    ap (λ (n : ℕ). cond (eqb n 3) (layout.sender_of t) (layout.payee_of t)) (kinded-tells (layout.kind_byte t) (layout.flag_byte t) k e).number
