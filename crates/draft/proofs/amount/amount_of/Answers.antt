-- `draft::amount::amount_of` meets its contract. Assumes nothing.
use Rattle.std.proofs.Common.{◌≡◌, true, ◌-◌, ◌≤◌, ℕ, List, length, get_or, sym, ◌∙◌, ap, arith}
use Rattle.std.specs.Prelude.{Some}
use Rattle.classes.specs.Class.{all_in}
use Rattle.classes.specs.declared.Class.TheVariants.{Digit}
use Rattle.pacs.specs.Judged.{digits_behind}
use Rattle.draft.proofs.Cents.{digits-class}
use Rattle.draft.proofs.Amounts.{whole_part, last_part, whole-wrong, last-wrong, Parts, whole-few, last-few, whole_below, cents-are}
use Rattle.draft.proofs.amount.amount_of.Goals as goal

-- each part is right
parts : (s : List ℕ) → 4 ≤ length s → length s ≤ 12 → get_or s (length s - 3) 0 ≡ 46 → all_in Digit (whole_part s) ≡ true
    → all_in Digit (last_part s) ≡ true → Parts s
parts s least most point whole last =
    record {
      least = least;
      most = most;
      point = point;
      whole = digits-class (whole_part s) ∙ whole;
      last = digits-class (last_part s) ∙ last;
    }

pub returns-then-not-all_in : goal.returns-then-not-all_in
returns-then-not-all_in c = whole-wrong c.args.s.now (sym c.all_in.ensures ∙ c.if-not-all_in.true)

pub returns-then-not-all_in-2 : goal.returns-then-not-all_in-2
returns-then-not-all_in-2 c = last-wrong c.args.s.now (sym c.all_in-2.ensures ∙ c.if-not-all_in-2.true)

pub digits_behind-requires : goal.digits_behind-requires
digits_behind-requires c =
    let p = parts c.args.s.now c.if-n-lt4.false c.if-n-gt12.false c.if-s-n-ne46.false (sym c.all_in.ensures ∙ c.if-not-all_in.false)
    (sym c.all_in-2.ensures ∙ c.if-not-all_in-2.false) in
    (omega arith, whole-few c.args.s.now p, p.whole)

pub digits_behind-requires-2 : goal.digits_behind-requires-2
digits_behind-requires-2 c =
    let p = parts c.args.s.now c.if-n-lt4.false c.if-n-gt12.false c.if-s-n-ne46.false (sym c.all_in.ensures ∙ c.if-not-all_in.false)
    (sym c.all_in-2.ensures ∙ c.if-not-all_in-2.false) in
    let e = c.digits_behind.ensures in
    let below = whole_below c.args.s.now p in
    let few = last-few c.args.s.now p in
    (omega arith, omega arith, p.last)

pub returns : goal.returns
returns c =
    let p = parts c.args.s.now c.if-n-lt4.false c.if-n-gt12.false c.if-s-n-ne46.false (sym c.all_in.ensures ∙ c.if-not-all_in.false)
    (sym c.all_in-2.ensures ∙ c.if-not-all_in-2.false) in
    ap Some (c.digits_behind-2.ensures ∙ ap (λ (n : ℕ). digits_behind n (last_part c.args.s.now)) c.digits_behind.ensures)
    ∙ sym (cents-are c.args.s.now p)
