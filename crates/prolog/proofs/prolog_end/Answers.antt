-- `prolog::prolog_end` meets its contract. Assumes nothing.
use mathlib.Core.Path.{ap}
use mathlib.Core.Bool.{not}
use Rattle.prolog.proofs.Declared.{not-begun, no-version, declared-read}
use Rattle.prolog.proofs.prolog_end.Goals as goal

pub returns-then-not-is_declared : goal.returns-then-not-is_declared
returns-then-not-is_declared c =
    not-begun c.args.text.now c.is_declared.ensures (ap not c.if-not-is_declared.true)

pub returns-then-version-eq5 : goal.returns-then-version-eq5
returns-then-version-eq5 c =
    no-version
    c.args.text.now
    c.is_declared.ensures
    (ap not c.if-not-is_declared.false)
    c.due_end-version.ensures
    c.if-version-eq5.true
    c.run_end.ensures

pub returns : goal.returns
returns c =
    declared-read
    c.args.text.now
    c.is_declared.ensures
    (ap not c.if-not-is_declared.false)
    c.closed_at.result
    c.due_end-version.ensures
    c.if-version-eq5.false
    c.due_end-encoding.ensures
    c.due_end.ensures
    c.closed_at.ensures
