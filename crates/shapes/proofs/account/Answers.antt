-- `shapes::account` meets its contract. Assumes nothing.
use Rattle.shapes.proofs.account.Goals as goal

pub returns-then-iban_ok : goal.returns-then-iban_ok
returns-then-iban_ok c =
    simp (c.if-iban_ok.true, ← c.iban_ok.ensures)

pub returns-else-iban_ok : goal.returns-else-iban_ok
returns-else-iban_ok c =
    simp (c.if-iban_ok.false, ← c.iban_ok.ensures)
