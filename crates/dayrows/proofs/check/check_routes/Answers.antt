use Rattle.std.proofs.Common.{◌+◌, ◌*◌, Bool, cond, sym, ap, ◌∙◌, arith}
use Rattle.dayfile.specs.FileLimits.{route_length}
use Rattle.dayfile.specs.FileRows.{route_ok}
use Rattle.dayfile.specs.declared.check.Routed.TheVariants.{Right, Wrong}
use Rattle.dayrows.proofs.Repeating.{all-right}
use Rattle.dayrows.proofs.check.check_routes.Goals as goal

pub returns-then-ok-bic_repeats : goal.returns-then-ok-bic_repeats
returns-then-ok-bic_repeats c =
    ap (λ (b : Bool). cond b Right Wrong)
    (sym c.if-ok-bic_repeats.true
    ∙ all-right (λ i. route_ok c.args.size i (c.args.start + route_length * i) c.args.f.now) c.args.start route_length c.args.n c.loop-i.i c.args.f.now (omega arith)
    c.loop-i.invariant c.bic_repeats.ensures)

pub returns-else-ok-bic_repeats : goal.returns-else-ok-bic_repeats
returns-else-ok-bic_repeats c =
    ap (λ (b : Bool). cond b Right Wrong)
    (sym c.if-ok-bic_repeats.false
    ∙ all-right (λ i. route_ok c.args.size i (c.args.start + route_length * i) c.args.f.now) c.args.start route_length c.args.n c.loop-i.i c.args.f.now (omega arith)
    c.loop-i.invariant c.bic_repeats.ensures)
