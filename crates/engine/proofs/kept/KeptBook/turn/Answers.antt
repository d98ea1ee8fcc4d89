-- A ticket's turn is one step of the rules. Assumes nothing.
use mathlib.Core.Path.{sym, ◌∙◌, ap}
use native.Mathlib.Omega.{arith}
use Rattle.verdict.specs.Judgement.{verdict_of}
use Rattle.turns.proofs.Turn.{clocked-sound, swept-few-at, written-long, after-sound}
use Rattle.turns.proofs.Facts.{sender-in, order-in, facts-are}
use Rattle.turns.proofs.Done.{turned_down, refused-late, told-is, rows-few, turned, step-told}
use Rattle.engine.proofs.SeenEntry.{sight-read, sight-refused}
use Rattle.engine.proofs.Passing.{seen_sought, taken, passed-by}
use Rattle.engine.proofs.kept.KeptBook.turn.Goals as goal

pub see-requires-clause-sound : goal.see-requires-clause-sound
see-requires-clause-sound c = c.requires.sound

pub see-requires-clause-lent : goal.see-requires-clause-lent
see-requires-clause-lent c = c.requires.lent

pub see-requires-clause-whole : goal.see-requires-clause-whole
see-requires-clause-whole c = c.requires.whole

pub returns-in-Err : goal.returns-in-Err
returns-in-Err c =
    let b = c.args.self.now.book in
    let r = sight-refused b c.args.t.now (sym c.see.ensures ∙ c.in-Err.is) in
    turned_down b c.args.t.now c.in-Err.refusal c.args.n c.args.reports.now r.0 r.1

pub expire-expired-requires-clause-sound : goal.expire-expired-requires-clause-sound
expire-expired-requires-clause-sound c =
    let b = c.args.self.now.book in
    let g = sight-read b c.args.t.now (sym c.see.ensures ∙ c.in-Ok.is) in
    clocked-sound (taken c.requires.sound g)

pub expire-expired-requires-clause-room : goal.expire-expired-requires-clause-room
expire-expired-requires-clause-room c = let h = c.requires.room in omega arith

pub judge-v-requires-clause-sound : goal.judge-v-requires-clause-sound
judge-v-requires-clause-sound c =
    let b = c.args.self.now.book in
    let g = sight-read b c.args.t.now (sym c.see.ensures ∙ c.in-Ok.is) in
    let w = passed-by c.requires.sound g c.expire-expired.ensures.book in
    after-sound w

pub judge-v-requires-clause-sender : goal.judge-v-requires-clause-sender
judge-v-requires-clause-sender c =
    let b = c.args.self.now.book in
    let g = sight-read b c.args.t.now (sym c.see.ensures ∙ c.in-Ok.is) in
    let w = passed-by c.requires.sound g c.expire-expired.ensures.book in
    let f = seen_sought w g c.end_of-way.ensures in
    sender-in (after-sound w) f

pub judge-v-requires-clause-order : goal.judge-v-requires-clause-order
judge-v-requires-clause-order c =
    let b = c.args.self.now.book in
    let g = sight-read b c.args.t.now (sym c.see.ensures ∙ c.in-Ok.is) in
    let w = passed-by c.requires.sound g c.expire-expired.ensures.book in
    let f = seen_sought w g c.end_of-way.ensures in
    order-in (after-sound w) f

pub overflow_sub-result : goal.overflow_sub-result
overflow_sub-result c =
    let b = c.args.self.now.book in
    let g = sight-read b c.args.t.now (sym c.see.ensures ∙ c.in-Ok.is) in
    let w = passed-by c.requires.sound g c.expire-expired.ensures.book in
    let f = seen_sought w g c.end_of-way.ensures in
    let v = c.judge-v.ensures ∙ ap verdict_of (facts-are (after-sound w) f) in
    let q = told-is w v c.expire-expired.ensures.told (refused-late w v c.if-v-ne0.true) in omega arith

pub overflow_cast-result : goal.overflow_cast-result
overflow_cast-result c =
    let b = c.args.self.now.book in
    let g = sight-read b c.args.t.now (sym c.see.ensures ∙ c.in-Ok.is) in
    let w = passed-by c.requires.sound g c.expire-expired.ensures.book in
    let f = seen_sought w g c.end_of-way.ensures in
    let v = c.judge-v.ensures ∙ ap verdict_of (facts-are (after-sound w) f) in
    let q = told-is w v c.expire-expired.ensures.told (refused-late w v c.if-v-ne0.true) in let most = step-told b c.requires.sound c.args.t.now in omega arith

pub returns-then-v-ne0 : goal.returns-then-v-ne0
returns-then-v-ne0 c =
    let b = c.args.self.now.book in
    let g = sight-read b c.args.t.now (sym c.see.ensures ∙ c.in-Ok.is) in
    let w = passed-by c.requires.sound g c.expire-expired.ensures.book in
    let f = seen_sought w g c.end_of-way.ensures in
    let v = c.judge-v.ensures ∙ ap verdict_of (facts-are (after-sound w) f) in
    turned w v c.expire-expired.ensures.told (refused-late w v c.if-v-ne0.true)

pub carry_out-carried-requires-clause-whole : goal.carry_out-carried-requires-clause-whole
carry_out-carried-requires-clause-whole c = c.requires.whole

pub carry_out-carried-requires-clause-after : goal.carry_out-carried-requires-clause-after
carry_out-carried-requires-clause-after c =
    let b = c.args.self.now.book in
    let g = sight-read b c.args.t.now (sym c.see.ensures ∙ c.in-Ok.is) in
    let w = passed-by c.requires.sound g c.expire-expired.ensures.book in
    (b, w)

pub carry_out-carried-requires-clause-sought : goal.carry_out-carried-requires-clause-sought
carry_out-carried-requires-clause-sought c =
    let b = c.args.self.now.book in
    let g = sight-read b c.args.t.now (sym c.see.ensures ∙ c.in-Ok.is) in
    let w = passed-by c.requires.sound g c.expire-expired.ensures.book in
    let f = seen_sought w g c.end_of-way.ensures in
    f

pub carry_out-carried-requires-clause-verdict : goal.carry_out-carried-requires-clause-verdict
carry_out-carried-requires-clause-verdict c =
    let b = c.args.self.now.book in
    let g = sight-read b c.args.t.now (sym c.see.ensures ∙ c.in-Ok.is) in
    let w = passed-by c.requires.sound g c.expire-expired.ensures.book in
    let f = seen_sought w g c.end_of-way.ensures in
    let v = c.judge-v.ensures ∙ ap verdict_of (facts-are (after-sound w) f) in
    v

pub carry_out-carried-requires-clause-room : goal.carry_out-carried-requires-clause-room
carry_out-carried-requires-clause-room c =
    let b = c.args.self.now.book in
    let g = sight-read b c.args.t.now (sym c.see.ensures ∙ c.in-Ok.is) in
    let few = swept-few-at b c.in-Ok.s.time (clocked-sound (taken c.requires.sound g)) in
    let q = c.expire-expired.ensures.told.told in let long = written-long c.expire-expired.ensures.told in let h = c.requires.room in omega arith

pub overflow_sub-result-2 : goal.overflow_sub-result-2
overflow_sub-result-2 c =
    let b = c.args.self.now.book in
    let g = sight-read b c.args.t.now (sym c.see.ensures ∙ c.in-Ok.is) in
    let w = passed-by c.requires.sound g c.expire-expired.ensures.book in
    let f = seen_sought w g c.end_of-way.ensures in
    let v = c.judge-v.ensures ∙ ap verdict_of (facts-are (after-sound w) f) in
    let q = told-is w v c.expire-expired.ensures.told c.carry_out-carried.ensures in omega arith

pub overflow_cast-result-2 : goal.overflow_cast-result-2
overflow_cast-result-2 c =
    let b = c.args.self.now.book in
    let g = sight-read b c.args.t.now (sym c.see.ensures ∙ c.in-Ok.is) in
    let w = passed-by c.requires.sound g c.expire-expired.ensures.book in
    let f = seen_sought w g c.end_of-way.ensures in
    let v = c.judge-v.ensures ∙ ap verdict_of (facts-are (after-sound w) f) in
    let q = told-is w v c.expire-expired.ensures.told c.carry_out-carried.ensures in let most = step-told b c.requires.sound c.args.t.now in omega arith

pub overflow_cast-result-3 : goal.overflow_cast-result-3
overflow_cast-result-3 c =
    let b = c.args.self.now.book in
    let g = sight-read b c.args.t.now (sym c.see.ensures ∙ c.in-Ok.is) in
    let w = passed-by c.requires.sound g c.expire-expired.ensures.book in
    let f = seen_sought w g c.end_of-way.ensures in
    let v = c.judge-v.ensures ∙ ap verdict_of (facts-are (after-sound w) f) in
    let few = rows-few w v c.expire-expired.ensures.told c.carry_out-carried.ensures in omega arith

pub returns : goal.returns
returns c =
    let b = c.args.self.now.book in
    let g = sight-read b c.args.t.now (sym c.see.ensures ∙ c.in-Ok.is) in
    let w = passed-by c.requires.sound g c.expire-expired.ensures.book in
    let f = seen_sought w g c.end_of-way.ensures in
    let v = c.judge-v.ensures ∙ ap verdict_of (facts-are (after-sound w) f) in
    turned w v c.expire-expired.ensures.told c.carry_out-carried.ensures
