-- `book::handing::hand_in` meets its contract. Assumes nothing.
use Rattle.std.specs.Prelude.{◌≡◌, ℕ, ◌<◌, ◌≤◌, Bool, true, false, cond, ltb, length, replicate}
use mathlib.Core.Path.{refl, sym, ◌∙◌, ap, subst}
use native.Mathlib.Omega.{arith}
use borrow.Author.Tests.{ltb-true, ltb-false}
use Rattle.rules.specs.Sound.{Sound}
use Rattle.rules.specs.declared.refusal.Buffer.{Buffer}
use Rattle.rules.specs.declared.refusal.Buffer.TheVariants.{Enough, Short}
use Rattle.book.specs.Handing.{handed_in}
use Rattle.book.specs.declared.handing.Handed.{Handed}
use Rattle.book.proofs.One.{one-outcome, short-outcome, other-outcome}
use Rattle.book.proofs.handing.hand_in.Goals.{In-Enough}
use Rattle.book.proofs.handing.hand_in.Goals as goal

-- what the check of the buffer says of its length
is-short : (n : ℕ) → cond (ltb n 6528) Short Enough ≡ Short → n < 6528
is-short n = go (ltb n 6528) (λ e. ltb-true n 6528 e)
  where
    go : (z : Bool) → (z ≡ true → n < 6528) → ◌≡◌ {A = Buffer} (cond z Short Enough) Short → n < 6528
    go true h e = h refl
    go false h e = let q : ◌≡◌ {A = ℕ} 0 1 = cc in absurd (omega arith)

is-enough : (n : ℕ) → cond (ltb n 6528) Short Enough ≡ Enough → 6528 ≤ n
is-enough n = go (ltb n 6528) (λ e. ltb-false n 6528 e)
  where
    go : (z : Bool) → (z ≡ false → 6528 ≤ n) → ◌≡◌ {A = Buffer} (cond z Short Enough) Enough → 6528 ≤ n
    go true h e = let q : ◌≡◌ {A = ℕ} 0 1 = cc in absurd (omega arith)
    go false h e = h refl

-- the buffer is long enough
long-enough : (c : In-Enough) → 6528 ≤ length c.args.buffer.now
long-enough c = is-enough _ (sym c.buffer_of.ensures ∙ c.in-Enough.is)

pub returns-in_default : goal.returns-in_default
returns-in_default c =
    let e = c.turned_back.ensures in
    record {
      outcome =
          ap (λ (r : Handed). handed_in r c.args.buffer.now) e
          ∙ short-outcome c.args.b c.args.ticket.now c.args.buffer.now
          (is-short _ (sym c.buffer_of.ensures ∙ c.in_default.is));
      sound = subst (λ (r : Handed). Sound r.book) (sym e) c.requires;
    }

pub returns-then-ticket-ne-LENGTH : goal.returns-then-ticket-ne-LENGTH
returns-then-ticket-ne-LENGTH c =
    let e = c.turned_back-then-ticket-ne-LENGTH.ensures in
    record {
      outcome =
          ap (λ (r : Handed). handed_in r c.args.buffer.now) e
          ∙ other-outcome c.args.b c.args.ticket.now c.args.buffer.now
          (long-enough (goal.at.returns-then-ticket-ne-LENGTH c).In-Enough) c.if-ticket-ne-LENGTH.true;
      sound = subst (λ (r : Handed). Sound r.book) (sym e) c.requires;
    }

pub returns : goal.returns
returns c =
    record {
      outcome =
          one-outcome c.args.b c.requires c.args.ticket.now (replicate 4 0) c.args.buffer.now refl
          c.if-ticket-ne-LENGTH.false (long-enough (goal.at.returns c).In-Enough)
          c.run-batch.ensures c.answer_at-a.result c.answer_at-a.ensures;
      sound = c.run-batch.ensures.sound;
    }
