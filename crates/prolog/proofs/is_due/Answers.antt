-- `prolog::is_due` meets its contract: in each arm the attribute that is due is the one named. Assumes nothing.
use Rattle.prolog.proofs.is_due.Goals as goal

pub returns-in-Version : goal.returns-in-Version
returns-in-Version c =
    rw c.in-Version.is c.is_version.ensures

pub returns-in-Encoding : goal.returns-in-Encoding
returns-in-Encoding c =
    rw c.in-Encoding.is c.is_encoding_of.ensures

pub returns-in-Standalone : goal.returns-in-Standalone
returns-in-Standalone c =
    rw c.in-Standalone.is c.is_standalone.ensures
