-- `elements::keeping::end_of` meets its contract. Assumes nothing.
use native.Mathlib.Omega.{arith}
use Rattle.xml.specs.Bytes.{is_text}
use Rattle.scan.proofs.Runs.{end-within}
use Rattle.elements.proofs.keeping.end_of.Goals as goal

pub returns-then-reads : goal.returns-then-reads
returns-then-reads c = (
  simp (c.if-reads.true, c.run_end.ensures),
  omega arith,
  omega (arith, c.run_end.ensures, end-within is_text c.args.text.now c.args.at c.requires),
)
