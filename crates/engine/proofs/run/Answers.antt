-- What is kept to begin with: a book without orders in use, no keys, all cover, and no order passed over. Assumes nothing.
use mathlib.Core.Path.{sym, ◌∙◌}
use native.Mathlib.Nat.{not-suc-le-zero}
use native.Mathlib.Omega.{arith}
use Rattle.codes.proofs.WholeCodes.{bic-length}
use Rattle.moves.proofs.InUse.{total-front}
use Rattle.course.proofs.Seeking.{total-sum}
use Rattle.course.proofs.Summing.{all-total}
use Rattle.turns.proofs.CarryingOut.{all-is}
use Rattle.engine.proofs.run.Goals as goal

pub put_directory-requires-clause-roster : goal.put_directory-requires-clause-roster
put_directory-requires-clause-roster c = c.requires.roster

pub put_keys-requires-clause-formed : goal.put_keys-requires-clause-formed
put_keys-requires-clause-formed c =
    let s = c.requires in
    let size = s.roster.size in (
      s.orders.count,
      λ i l. let payer = s.orders.payer i l in omega arith,
      λ i l. bic-length _ (s.roster.bic _ (s.orders.payer i l)),
      s.orders.padded,
    )

pub total_of-total-requires : goal.total_of-total-requires
total_of-total-requires c = rw (total-front c.args.b.covers c.args.b.roster.size, total-sum c.args.b) c.requires.limited

pub invariant_of-kept : goal.invariant_of-kept
invariant_of-kept c =
    record {
      kept = record {
        index = record { keys = c.new-3.ensures };
        sum =
            c.total_of-total.ensures
            ∙ total-front c.args.b.covers c.args.b.roster.size
            ∙ total-sum c.args.b
            ∙ sym (all-total c.args.b c.requires)
            ∙ all-is c.args.b.covers;
        passed = record { none = λ i l. absurd (not-suc-le-zero l) };
        few = omega arith;
      };
    }

pub take-taken-requires-clause-sound : goal.take-taken-requires-clause-sound
take-taken-requires-clause-sound c = c.requires

pub take-taken-requires-clause-lent : goal.take-taken-requires-clause-lent
take-taken-requires-clause-lent c = c.put_directory.ensures
