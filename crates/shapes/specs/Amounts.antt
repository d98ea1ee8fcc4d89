-- The amounts that a kind takes. Assumes nothing.
use Rattle.ticket.specs.Form.{form_of}
use Rattle.ticket.specs.declared.kinds.Kind.{Kind}
use Rattle.shapes.specs.declared.amounts.Amounts.{Amounts}

unfoldable pub amounts_of : Kind → Amounts
amounts_of kind = record { least = (form_of kind).least; most = (form_of kind).most }
