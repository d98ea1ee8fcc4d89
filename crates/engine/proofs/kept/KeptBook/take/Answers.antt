-- Tickets are taken one after the other, each by one step of the rules. Assumes nothing.
use mathlib.Core.Path.{sym, subst}
use native.Mathlib.Omega.{arith}
use Rattle.dayfile.specs.declared.roster.Roster.{Roster}
use Rattle.course.proofs.Running.{started, ended}
use Rattle.turns.proofs.Done.{going_on}
use Rattle.engine.specs.Directory.{Directs}
use Rattle.engine.proofs.Heading.{ticket_is, bytes-long, text-long, none_more, more, room, whole-ticket}
use Rattle.engine.proofs.kept.KeptBook.take.Goals as goal

pub loop-at-init : goal.loop-at-init
loop-at-init c =
    record {
      going = started c.args.self.now.book c.args.tickets.now c.args.answers.now c.args.reports.now c.requires.sound;
      lent = c.requires.lent;
    }

pub turn-answer-requires-clause-sound : goal.turn-answer-requires-clause-sound
turn-answer-requires-clause-sound c = c.loop-at.invariant.going.sound

pub turn-answer-requires-clause-lent : goal.turn-answer-requires-clause-lent
turn-answer-requires-clause-lent c = c.loop-at.invariant.lent

pub turn-answer-requires-clause-whole : goal.turn-answer-requires-clause-whole
turn-answer-requires-clause-whole c = whole-ticket c.loop-at.invariant.going c.room_left.ensures c.loop-at-test.true

pub turn-answer-requires-clause-room : goal.turn-answer-requires-clause-room
turn-answer-requires-clause-room c =
    let g = c.loop-at.invariant.going in
    let h = (room g c.room_left.ensures c.loop-at-test.true).report in
    let long = text-long g in
    omega arith

pub put_answer-requires : goal.put_answer-requires
put_answer-requires c =
    let g = c.loop-at.invariant.going in
    let h = (room g c.room_left.ensures c.loop-at-test.true).answer in
    let long = bytes-long g in
    omega arith

pub loop-at-preserved : goal.loop-at-preserved
loop-at-preserved c =
    let v = c.loop-at.invariant in
    let turned = c.turn-answer.ensures in
    record {
      going =
          going_on v.going (more v.going c.room_left.ensures c.loop-at-test.true)
          (ticket_is c.args.tickets.now c.loop-at.taken) turned c.put_answer.ensures;
      lent = subst (λ (r : Roster). Directs r c.args.d.now) (sym turned.roster) v.lent;
    }

pub returns : goal.returns
returns c =
    let g = c.loop-at.invariant.going in
    ended c.args.self.now.book c.args.tickets.now c.args.answers.now c.args.reports.now g (none_more g c.room_left.ensures c.loop-at-test.false)
