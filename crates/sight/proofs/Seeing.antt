-- What is seen of a ticket, check by check. Assumes nothing.
use Rattle.std.specs.Prelude.{Option, None, Result, Some, Ok, Err}
use mathlib.Core.Path.{◌≡◌, refl, sym, ◌∙◌, ap}
use mathlib.Core.Bool.{Bool, true, false, cond}
use mathlib.Core.List.{List}
use Prim.Native.Nat.{ℕ, ◌<◌}
use native.Mathlib.Omega.{arith}
use borrow.Author.Tests.{eqb-false}
use lib.Dec.{ltb, eqb}
use Rattle.ticket.specs.TicketLayout.{kind_byte, flag_byte, amount_of, time_of}
use Rattle.ticket.specs.Kind.{kinded}
use Rattle.ticket.specs.Form.{form_of}
use Rattle.ticket.specs.Shape.{shape_of, account_of}
use Rattle.ticket.specs.Amount.{stated_in}
use Rattle.ticket.specs.TicketReading.{read_account, read_stated}
use Rattle.ticket.specs.declared.kinds.Kind.{Kind}
use Rattle.ticket.specs.declared.shapes.Account.TheVariants.{Named, Wrong}
use Rattle.ticket.proofs.CheckLaws.{read-malformed, read-formed, read_named}
use Rattle.ticket.proofs.Refusals.{unknown-refused}
use Rattle.rules.specs.Terms.{terms_of, names_sender, opens_order}
use Rattle.rules.specs.declared.terms.Subject.{Subject}
use Rattle.course.specs.Entry.{read_entry, entry_of}
use Rattle.course.specs.Seeking.{if, seeks_order}
use Rattle.sight.specs.Sight.{seen_as, sight_as, sight_of}
use Rattle.shapes.specs.Amounts.{amounts_of}
use Rattle.shapes.specs.Subject.{TicketNaming}
use Rattle.sight.specs.Value.{value_sight}
use Rattle.sight.specs.declared.Seen.{Seen}
use Rattle.shapes.proofs.Forms.{formed-kind, no-account}
use Rattle.ticket.specs.declared.Fields.{Fields}

module _ (clock : ℕ) (t : List ℕ) (sender order route : Option ℕ) where
  -- of what was read
  abbrev sight-read : Result Fields ℕ → Result Seen ℕ
  sight-read r = sight_as (read_entry clock r) sender order route

  -- with what its kind asks for, by what that names
  abbrev pub asked : Kind → Subject → Result Seen ℕ
  asked k s =
      value_sight clock t k
      (record { sender = if (names_sender s) sender; order = if (seeks_order s) order; route = if (opens_order s) route })

  -- 7: an unknown kind or flag
  pub sight-unknown : kinded (kind_byte t) (flag_byte t) ≡ None → sight_of clock t sender order route ≡ Err 7
  sight-unknown e = ap sight-read (unknown-refused t e)

  -- 7
  pub sight-malformed : shape_of t ≡ None → sight_of clock t sender order route ≡ Err 7
  sight-malformed e = ap sight-read (read-malformed t e)

  -- 8
  pub sight-wrong : (k : Kind) → shape_of t ≡ Some k → account_of (form_of k) t ≡ Wrong → sight_of clock t sender order route ≡ Err 8
  sight-wrong k e w = ap sight-read (read-formed t k e ∙ ap (read_account k t) w)

  -- 9 to 11, and what is seen where none applies
  pub sight-named : (k : Kind) → shape_of t ≡ Some k → account_of (form_of k) t ≡ Named
      → sight_of clock t sender order route ≡ asked k (terms_of k).subject
  unfolding amounts_of
  sight-named k e n =
      ap sight-read (read_named t k e n)
      ∙ go (ltb (amount_of t) (form_of k).least) refl (ltb (form_of k).most (amount_of t)) refl (ltb (time_of t) clock) refl
    where
      go : (a : Bool) → ltb (amount_of t) (form_of k).least ≡ a → (b : Bool) → ltb (form_of k).most (amount_of t) ≡ b → (c : Bool)
          → ltb (time_of t) clock ≡ c
          → sight-read (read_stated k t (stated_in (form_of k) t)) ≡ asked k (terms_of k).subject
      go true a b x c y = simp a
      go false a true b c y = simp (a, b)
      go false a false b true c = simp (a, b, c)
      go false a false b false c = simp (a, b, c)

  -- the same where no account is asked for
  pub sight-formed : (s : Subject) (k : Kind) → TicketNaming s k t → opens_order s ≡ false → (j : Kind) → shape_of t ≡ Some j
      → sight_of clock t sender order route ≡ asked k s
  sight-formed s k n opens j e =
      sight-named k (formed-kind s k t n j e) (no-account k t (ap opens_order n.names ∙ opens))
      ∙ ap (asked k) n.names

module _ (clock : ℕ) (t : List ℕ) (sender order route : Option ℕ) where
  -- by the test of its refusal
  abbrev tested : Bool → Result Seen ℕ
  tested b = cond b (Ok (seen_as (entry_of clock t) sender order route)) (Err (entry_of clock t).refusal)

  pub refused : (n : ℕ) → sight_of clock t sender order route ≡ Err n → ((entry_of clock t).refusal ≡ n) × (0 < n)
  refused n e = go (eqb (entry_of clock t).refusal 0) refl
    where
      go : (b : Bool) → eqb (entry_of clock t).refusal 0 ≡ b → ((entry_of clock t).refusal ≡ n) × (0 < n)
      go true q =
          let e' : ◌≡◌ {A = Result Seen ℕ} (Ok (seen_as (entry_of clock t) sender order route)) (Err n) = sym (ap tested q) ∙ e in
          let z : ◌≡◌ {A = ℕ} 0 1 = cc in
          absurd (omega arith)
      go false q =
          let e' : ◌≡◌ {A = Result Seen ℕ} (Err (entry_of clock t).refusal) (Err n) = sym (ap tested q) ∙ e in
          let is : (entry_of clock t).refusal ≡ n = cc in
          let not-zero = eqb-false (entry_of clock t).refusal 0 q in
          (is, omega arith)
