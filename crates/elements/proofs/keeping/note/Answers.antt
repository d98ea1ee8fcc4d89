-- `elements::keeping::note` meets its contract: its ways are the laws of `Noting.antt`. Assumes nothing.
use mathlib.Core.Path.{◌≡◌, refl, sym, ◌∙◌, ap}
use mathlib.Core.Bool.{Bool, false, ◌&&◌}
use Rattle.std.specs.Prelude.{Option, Some, None}
use Rattle.std.specs.Option.{is_some}
use Rattle.pacs.specs.declared.refusals.Refused.{Refused}
use Rattle.elements.proofs.Noting.{Looked, found-wrong, kept_on, no-places, kept-placed}
use Rattle.elements.proofs.Plain.{stands-there}
use Rattle.elements.proofs.keeping.note.Goals as goal

none-kept : (o : Option Refused) → is_some o ≡ false → o ≡ None
none-kept None e = refl
none-kept (Some r) e = cc

pub returns-in-Some : goal.returns-in-Some
returns-in-Some c =
    let a = c.args in
    let looked : Looked a.text.now a.row.number a.tag.end a.tag.nests a.notes.now c.end_of-end.result c.fault_of.result =
    record {
      right = none-kept _ (sym c.is_some.ensures ∙ c.if-is_some.false);
      reads = a.tag.nests && c.is_text_row.result;
      plain = c.is_plain-plain.result;
      asked = ap (λ (b : Bool). a.tag.nests && b) c.is_text_row.ensures;
      ended = c.end_of-end.ensures.0;
      tested = c.is_plain-plain.ensures;
      told = c.fault_of.ensures;
    } in
    (found-wrong looked a.tag.name_end c.in-Some.is (ap Some c.at.ensures), λ placed none. no-places (ap Some c.at.ensures) none)

pub returns : goal.returns
returns c =
    let a = c.args in
    let looked : Looked a.text.now a.row.number a.tag.end a.tag.nests a.notes.now c.end_of-end.result c.fault_of.result =
    record {
      right = none-kept _ (sym c.is_some.ensures ∙ c.if-is_some.false);
      reads = a.tag.nests && c.is_text_row.result;
      plain = c.is_plain-plain.result;
      asked = ap (λ (b : Bool). a.tag.nests && b) c.is_text_row.ensures;
      ended = c.end_of-end.ensures.0;
      tested = c.is_plain-plain.ensures;
      told = c.fault_of.ensures;
    } in (
      kept_on looked c.euro_of-notes.result _ refl c.in_default.is a.tag.name_end a.row.in_range c.euro_of-notes.ensures,
      kept-placed looked c.euro_of-notes.result _ refl c.in_default.is a.row.in_range
          (stands-there a.text.now _ c.end_of-end.result refl c.end_of-end.ensures.1 c.end_of-end.ensures.2),
    )
