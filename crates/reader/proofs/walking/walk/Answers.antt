-- `reader::walking::walk` meets its contract: the root by its tag, and what it holds. Assumes nothing.
use Rattle.std.proofs.Common.{◌≡◌, Ok, ℕ, ◌+◌, List, [], drop, refl, sym, ◌∙◌, ap, arith, rules}
use mathlib.Core.Bool.{not}
use Rattle.tags.specs.declared.TagEnd.TheVariants.{Opens, Closes}
use Rattle.xml.specs.Bytes.{is_name, run}
use Rattle.xml.specs.Scanning.{attributes_of, TagRead, tag_behind}
use Rattle.pacs.specs.declared.refusals.Refused.{Refused}
use Rattle.pacs.specs.Wrongs.{wrong_refusal}
use Rattle.pacs.proofs.Going.{none-placed, root-no-name, root-not-tag, closes-of}
use Rattle.reader.proofs.Turns.{first, no-first, closed-root}
use Rattle.reader.proofs.TagsRead.{opened, closed, no-tag-there}
use Rattle.reader.proofs.walking.walk.Goals as goal

-- the name behind a place, and the tag that is read behind it
abbrev word_at : List ℕ → ℕ → List ℕ
word_at t place = run is_name (drop (place + 1) t)

abbrev read_at : List ℕ → ℕ → ℕ → TagRead
read_at t place behind = tag_behind (word_at t place) (attributes_of (drop behind t))

abbrev told : Refused → ℕ
told why = wrong_refusal why.wrong

pub returns-then-not-is_first : goal.returns-then-not-is_first
returns-then-not-is_first c =
    let t = c.args.text.now in
    let less = sym c.byte.ensures ∙ c.if-byte-ne60.false in (
      root-no-name t c.args.start less (no-first t _ c.is_first.ensures c.byte-2.ensures (ap not c.if-not-is_first.true)),
      ap told c.at-then-not-is_first.ensures,
    )

pub within-requires : goal.within-requires
within-requires c =
    let t = c.args.text.now in
    let behind = c.run_end-name_end.result in
    let ended : c.long_tag_end.result ≡ Ok (Opens c.in-Ok-Opens.end) = search rules in
    let read = opened t behind (read_at t c.args.start behind) ended (c.long_tag_end.ensures (word_at t c.args.start)) in (
      record {
        less = sym c.byte.ensures ∙ c.if-byte-ne60.false;
        first = first t _ c.is_first.ensures c.byte-2.ensures (ap not c.if-not-is_first.false);
        name = c.run_end-name_end.ensures;
        within = read.within;
        later = read.later;
        tag = read.tag;
        opens = read.read;
      },
      refl,
      refl,
      c.requires,
    )

pub meet-requires : goal.meet-requires
meet-requires c =
    let t = c.args.text.now in
    let behind = c.run_end-name_end.result in
    let name = c.run_end-name_end.ensures in
    let ended : c.long_tag_end.result ≡ Ok (Closes c.in-Ok-Closes.end) = search rules in
    let read = closed t behind (read_at t c.args.start behind) ended (c.long_tag_end.ensures (word_at t c.args.start)) in
    let later = read.later in
    let within = read.within in
    (omega arith, omega arith, omega arith)

pub returns-in-Ok-Closes : goal.returns-in-Ok-Closes
returns-in-Ok-Closes c =
    let t = c.args.text.now in
    let behind = c.run_end-name_end.result in
    let ended : c.long_tag_end.result ≡ Ok (Closes c.in-Ok-Closes.end) = search rules in
    let read = closed t behind (read_at t c.args.start behind) ended (c.long_tag_end.ensures (word_at t c.args.start)) in
    let of = closes-of (word_at t c.args.start) (attributes_of (drop behind t)) read.tag _ read.read in
    let met = c.meet.ensures.met in
    record {
      walked =
          closed-root
          t
          c.args.start
          (sym c.byte.ensures ∙ c.if-byte-ne60.false)
          (first t _ c.is_first.ensures c.byte-2.ensures (ap not c.if-not-is_first.false))
          c.run_end-name_end.ensures
          read.tag
          read.read
          read.within
          met.is
          (met.keeps [] read.tag of.space of.rest of.attributes c.requires);
      placed = c.meet.ensures.placed (none-placed t _ c.requires);
    }

pub returns-in-Err : goal.returns-in-Err
returns-in-Err c =
    let t = c.args.text.now in
    let behind = c.run_end-name_end.result in (
      root-not-tag t c.args.start (sym c.byte.ensures ∙ c.if-byte-ne60.false)
          (first t _ c.is_first.ensures c.byte-2.ensures (ap not c.if-not-is_first.false))
          c.run_end-name_end.ensures
          (no-tag-there t behind (read_at t c.args.start behind) c.in-Err.is (c.long_tag_end.ensures (word_at t c.args.start))),
      c.refused.ensures,
    )
