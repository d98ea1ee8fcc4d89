-- `codes::zolfigar_iban_groups` meets its contract. Assumes nothing.
use borrow.Author.Rules.{rules}
use Rattle.iban.proofs.IbanDigits.{ten-groups}
use Rattle.codes.proofs.zolfigar_iban_groups.Goals as goal

pub overflow_cast-result : goal.overflow_cast-result
overflow_cast-result c =
    let few = ten-groups c.args.s.now in
    search rules
