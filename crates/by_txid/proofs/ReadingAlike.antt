-- Two tickets that are alike in what is read, each by its own form, read alike. Assumes nothing.
use Rattle.std.specs.Prelude.{None, Ok, Option, Some, ℕ}
use mathlib.Core.Path.{◌≡◌, refl, ◌∙◌, ap, ap₂}
use mathlib.Core.Bool.{Bool, true, false, cond}
use mathlib.Core.List.{List}
use Prim.Native.Nat.{ℕ}
use borrow.Author.Tests.{eqb-true}
use lib.Dec.{ltb, eqb}
use lib.ListN.{length}
use Rattle.iban.specs.Iban.{is_iban}
use Rattle.ticket.specs.TicketLayout.{ticket_length, kind_byte, flag_byte, time_of, amount_of, iban_of}
use Rattle.ticket.specs.Kind.{kinded}
use Rattle.ticket.specs.Form.{form_of}
use Rattle.ticket.specs.Shape.{well_formed, shape_as, shape_of, account_of}
use Rattle.ticket.specs.Amount.{stated_in, limit_of}
use Rattle.ticket.specs.TicketReading.{read_limit, read_stated, read_account, read_shape, reading}
use Rattle.ticket.specs.declared.forms.Form.{Form}
use Rattle.ticket.specs.declared.kinds.Kind.{Kind}
use Rattle.ticket.specs.declared.shapes.Account.{Account}
use Rattle.ticket.specs.declared.shapes.Account.TheVariants.{Named, Wrong}
use Rattle.ticket.specs.declared.amounts.Limit.{Limit}
use Rattle.ticket.specs.declared.amounts.Limit.TheVariants.{Within, Above}
use Rattle.by_txid.specs.ReadingBy.{shape_as_by, shape_by, read_stated_by, read_account_by, read_shape_by, reading_by}

-- t by its form is as u by the present one: kind and flag, time, amount, what refusals 7 to 10 look at
pub record Alike (form : Kind → Form) (t u : List ℕ) : Type 0 where
  pub long : length t ≡ length u
  pub kind : kind_byte t ≡ kind_byte u
  pub flag : flag_byte t ≡ flag_byte u
  pub time : time_of t ≡ time_of u
  pub amount : amount_of t ≡ amount_of u
  pub formed : (k : Kind) → length u ≡ ticket_length → kinded (kind_byte u) (flag_byte u) ≡ Some k
      → well_formed (form k) t ≡ well_formed (form_of k) u
  pub iban : iban_of t ≡ iban_of u
  pub listed : (k : Kind) → (form k).iban ≡ (form_of k).iban
  pub least : (k : Kind) → (form k).least ≡ (form_of k).least
  pub most : (k : Kind) → (form k).most ≡ (form_of k).most

module _ (form : Kind → Form) (t u : List ℕ) (a : Alike form t u) where
  limit-alike : (k : Kind) (n : ℕ) (l : Limit) → read_limit k t n l ≡ read_limit k u n l
  limit-alike k n Within = ap (λ (time : ℕ). Ok (record { kind = k; time = time; amount = n })) a.time
  limit-alike k n Above = refl

  stated_alike : (k : Kind) (s : Option ℕ) → read_stated_by form k t s ≡ read_stated k u s
  stated_alike k (Some n) =
      ap (λ (most : ℕ). read_limit k t n (cond (ltb most n) Above Within)) (a.most k) ∙ limit-alike k n (limit_of (form_of k) n)
  stated_alike k None = refl

  account-alike : (k : Kind) (c : Account) → read_account_by form k t c ≡ read_account k u c
  account-alike k Named =
      ap (λ (n : ℕ). read_stated_by form k t (cond (ltb n (form k).least) None (Some n))) a.amount
      ∙ ap (λ (least : ℕ). read_stated_by form k t (cond (ltb (amount_of u) least) None (Some (amount_of u)))) (a.least k)
      ∙ stated_alike k (stated_in (form_of k) u)
  account-alike k Wrong = refl

  shape-reads-alike : (s : Option Kind) → read_shape_by form t s ≡ read_shape u s
  shape-reads-alike (Some k) =
      ap₂ (λ (listed : Bool) (s : List ℕ). read_account_by form k t (cond listed (cond (is_iban s) Named Wrong) Named)) (a.listed k) a.iban
      ∙ account-alike k (account_of (form_of k) u)
  shape-reads-alike None = refl

  as-alike : (d : Option Kind) → length u ≡ ticket_length → kinded (kind_byte u) (flag_byte u) ≡ d → shape_as_by form d t ≡ shape_as d u
  as-alike (Some k) whole e = ap (λ (b : Bool). cond b (Some k) None) (a.formed k whole e)
  as-alike None whole e = refl

  shape-alike : shape_by form t ≡ shape_of u
  shape-alike =
      ap (λ (n : ℕ). cond (eqb n ticket_length) (shape_as_by form (kinded (kind_byte t) (flag_byte t)) t) None) a.long
      ∙ ap₂ (λ (k f : ℕ). cond (eqb (length u) ticket_length) (shape_as_by form (kinded k f) t) None) a.kind a.flag
      ∙ go (eqb (length u) ticket_length) refl
    where
      go : (b : Bool) → eqb (length u) ticket_length ≡ b
          → cond b (shape_as_by form (kinded (kind_byte u) (flag_byte u)) t) None
          ≡ cond b (shape_as (kinded (kind_byte u) (flag_byte u)) u) None
      go true e = as-alike (kinded (kind_byte u) (flag_byte u)) (eqb-true (length u) ticket_length e) refl
      go false e = refl

  pub reading-alike : reading_by form t ≡ reading u
  unfolding reading_by reading
  reading-alike = ap (read_shape_by form t) shape-alike ∙ shape-reads-alike (shape_of u)

-- by the present forms it is the reading of `ticket`
pub reading-present : (t : List ℕ) → reading_by form_of t ≡ reading t
reading-present t =
    reading-alike form_of t t
    (record {
      long = refl;
      kind = refl;
      flag = refl;
      time = refl;
      amount = refl;
      formed = λ k whole e. refl;
      iban = refl;
      listed = λ k. refl;
      least = λ k. refl;
      most = λ k. refl;
    })
