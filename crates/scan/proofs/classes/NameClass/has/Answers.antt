-- `scan::classes::NameClass::has` meets its contract: its table was compared with the definition at each byte. Assumes nothing.
use mathlib.Core.Path.{refl}
use borrow.Author.Rules.{rules}
use Rattle.xml.specs.Bytes.{is_letter, is_encoding_byte, is_name}
use Rattle.scan.specs.declared.classes.TheConstants.{NAMES}
use Rattle.scan.proofs.ByteTests.{name-tested}
use Rattle.scan.proofs.classes.NameClass.has.Goals as goal

pub returns : goal.returns
unfolding is_letter is_encoding_byte is_name
returns c =
    name-tested NAMES refl c.args.b (search rules)
