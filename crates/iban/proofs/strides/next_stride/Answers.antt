-- `iban::strides::next_stride` meets its contract. Assumes nothing.
use mathlib.Core.Path.{sym, ◌∙◌}
use Rattle.iban.proofs.StrideAhead.{Ahead, first-spelt, one-strode, second-spelt, two-strode, both-capitals, both-digits, seven-there, seven-strode}
use Rattle.iban.proofs.strides.next_stride.Goals.{After-byte-b}
use Rattle.iban.proofs.strides.next_stride.Goals as goal

-- the two bytes that are looked at first
ahead : (c : After-byte-b) → let a = c.args in Ahead a.s.now a.i c.byte-b.result
ahead c =
    record { spelt = c.requires.0; within = c.requires.1; next = c.byte-b.ensures }

pub one-requires : goal.one-requires
one-requires c =
    first-spelt (ahead (goal.at.one-requires c).After-byte-b)

pub returns-then-b-eq0 : goal.returns-then-b-eq0
returns-then-b-eq0 c =
    one-strode (ahead (goal.at.returns-then-b-eq0 c).After-byte-b) c.one.result c.one.ensures

pub two_letters-requires : goal.two_letters-requires
two_letters-requires c =
    both-capitals (ahead (goal.at.two_letters-requires c).After-byte-b) c.if-b-eq0.false c.if-a-b.true

pub returns-then-a-b : goal.returns-then-a-b
returns-then-a-b c =
    two-strode (ahead (goal.at.returns-then-a-b c).After-byte-b) c.if-b-eq0.false c.two_letters.result c.two_letters.ensures

pub two-requires : goal.two-requires
two-requires c =
    let a = ahead (goal.at.two-requires c).After-byte-b in
    (first-spelt a, second-spelt a c.if-b-eq0.false)

pub returns-then-a-b-2 : goal.returns-then-a-b-2
returns-then-a-b-2 c =
    two-strode (ahead (goal.at.returns-then-a-b-2 c).After-byte-b) c.if-b-eq0.false c.two.result c.two.ensures

pub seven_digits-requires : goal.seven_digits-requires
seven_digits-requires c =
    seven-there (ahead (goal.at.seven_digits-requires c).After-byte-b) c.if-b-eq0.false c.if-a-b-2.false (sym c.five_more.ensures ∙ c.if-five_more.true)

pub returns-then-five_more : goal.returns-then-five_more
returns-then-five_more c =
    seven-strode (ahead (goal.at.returns-then-five_more c).After-byte-b) c.if-b-eq0.false c.if-a-b-2.false (sym c.five_more.ensures ∙ c.if-five_more.true)
    c.seven_digits.result c.seven_digits.ensures

pub two_digits-requires : goal.two_digits-requires
two_digits-requires c =
    both-digits (ahead (goal.at.two_digits-requires c).After-byte-b) c.if-b-eq0.false c.if-a-b-2.false

pub returns : goal.returns
returns c =
    two-strode (ahead (goal.at.returns c).After-byte-b) c.if-b-eq0.false c.two_digits.result c.two_digits.ensures
