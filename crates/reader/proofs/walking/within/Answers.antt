-- `reader::walking::within` meets its contract: each turn of the loop is a law of pacs' Going.antt. Assumes nothing.
use Rattle.std.proofs.Common.{◌≡◌, ℕ, ◌+◌, ◌-◌, ◌<◌, List, [], get_or, drop, refl, sym, ◌∙◌, ap, arith, rules}
use mathlib.Core.Bool.{not}
use lib.ListN.{length-set}
use Rattle.std.specs.Prelude.{Ok}
use Rattle.tags.specs.declared.TagEnd.TheVariants.{Opens, Closes}
use Rattle.xml.specs.Bytes.{is_name, run}
use Rattle.xml.specs.Scanning.{attributes_of, TagRead, tag_behind}
use Rattle.xml.proofs.Places.{byte-within}
use Rattle.pacs.specs.declared.refusals.Refused.{Refused}
use Rattle.pacs.specs.Named.{row_of, outside}
use Rattle.pacs.specs.Kept.{placed_text}
use Rattle.pacs.specs.Wrongs.{wrong_refusal}
use Rattle.pacs.proofs.Going.{none-placed, going-placed, no-tag, no_end, going-ends, no_name, too-deep, not-tag, going-opens, going-closes, root-opens, opens_of, closes-of}
use Rattle.reader.proofs.Turns.{other-end, behind-end, first, no-first, no_slash}
use Rattle.reader.proofs.TagsRead.{opened, closed, no-tag-there}
use Rattle.reader.proofs.walking.within.Goals as goal

-- the name behind a place, and the tag that is read behind it
abbrev word_at : List ℕ → ℕ → List ℕ
word_at t place = run is_name (drop (place + 1) t)

abbrev read_at : List ℕ → ℕ → ℕ → TagRead
read_at t place behind = tag_behind (word_at t place) (attributes_of (drop behind t))

abbrev told : Refused → ℕ
told why = wrong_refusal why.wrong

pub meet-role-requires : goal.meet-role-requires
meet-role-requires c =
    let r = c.requires.0 in
    let later = r.later in
    let name = r.name in
    let from = c.requires.2 in
    let within = r.within in
    (omega arith, omega arith, omega arith)

pub loop-depth-init : goal.loop-depth-init
loop-depth-init c =
    let t = c.args.text.now in
    let r = c.requires.0 in
    let of = opens_of _ _ r.tag _ r.opens in
    let met = c.meet-role.ensures.met in
    let later = r.later in
    let name = r.name in
    let from = ap (λ (n : ℕ). placed_text t n c.args.root.name_end) c.requires.2 in
    record {
      going = record {
        going =
            root-opens t c.args.root.start r.less r.first r.name c.args.root.end r.tag _ _ _ (met.is ∙ ap (row_of outside) from) refl (sym from)
            r.opens
            (omega arith)
            (rw c.requires.1 at (met.keeps [] r.tag of.space of.rest of.attributes c.requires.3));
        placed = c.meet-role.ensures.placed (none-placed t _ c.requires.3);
      };
      within = r.within;
      rows = omega arith;
    }

pub returns-then-byte-ne60 : goal.returns-then-byte-ne60
returns-then-byte-ne60 c = (
  no-tag
      c.loop-depth.invariant.going.going
      c.loop-depth-test.true
      c.run_end-start.ensures
      (λ e. c.if-byte-ne60.true (c.byte.ensures ∙ e)),
  ap told c.at.ensures,
)

pub end_tag-requires : goal.end_tag-requires
end_tag-requires c =
    let w = byte-within c.args.text.now _ 0x2f (sym c.byte-first.ensures ∙ c.if-first-eq47.true) (omega arith) in
    omega arith

pub returns-in_default : goal.returns-in_default
returns-in_default c = (
  no_end
      c.loop-depth.invariant.going.going
      c.loop-depth-test.true
      c.run_end-start.ensures
      (sym c.byte.ensures ∙ c.if-byte-ne60.false)
      (sym c.byte-first.ensures ∙ c.if-first-eq47.true)
      _
      refl
      c.index-open-top.result
      (other-end c.args.text.now (c.run_end-start.result + 2)
      (get_or c.loop-depth.open (c.loop-depth.depth - 1) c.index-open-top.result).name.now
      c.in_default.is
      c.end_tag.ensures),
  ap told c.at-in_default.ensures,
)

pub loop-depth-preserved-then-first-eq47 : goal.loop-depth-preserved-then-first-eq47
loop-depth-preserved-then-first-eq47 c =
    let less = sym c.byte.ensures ∙ c.if-byte-ne60.false in
    let slash = sym c.byte-first.ensures ∙ c.if-first-eq47.true in
    let none = c.index-open-top.result in
    let name = (get_or c.loop-depth.open (c.loop-depth.depth - 1) none).name.now in
    let read = behind-end c.args.text.now (c.run_end-start.result + 2) name c.in-Some.is c.end_tag.ensures in
    let later = read.2 in
    record {
      going =
          going-placed c.loop-depth.invariant.going
          (going-ends c.loop-depth.invariant.going.going c.loop-depth-test.true c.run_end-start.ensures less slash _ refl none _
          read.0
          read.1
          (omega arith))
          (λ placed. placed);
      within = read.3;
      rows = c.loop-depth.invariant.rows;
    }

pub returns-then-not-is_first : goal.returns-then-not-is_first
returns-then-not-is_first c =
    let t = c.args.text.now in (
      no_name
          c.loop-depth.invariant.going.going
          c.loop-depth-test.true
          c.run_end-start.ensures
          (sym c.byte.ensures ∙ c.if-byte-ne60.false)
          (no_slash t _ c.byte-first.ensures c.if-first-eq47.false)
          (no-first t _ c.is_first.ensures c.byte-first.ensures (ap not c.if-not-is_first.true)),
      ap told c.at-then-not-is_first.ensures,
    )

pub returns-then-depth-eq-DEEPEST : goal.returns-then-depth-eq-DEEPEST
returns-then-depth-eq-DEEPEST c =
    let t = c.args.text.now in (
      too-deep
          c.loop-depth.invariant.going.going
          c.loop-depth-test.true
          c.run_end-start.ensures
          (sym c.byte.ensures ∙ c.if-byte-ne60.false)
          (no_slash t _ c.byte-first.ensures c.if-first-eq47.false)
          (first t _ c.is_first.ensures c.byte-first.ensures (ap not c.if-not-is_first.false))
          refl
          c.if-depth-eq-DEEPEST.true,
      ap told c.at-then-depth-eq-DEEPEST.ensures,
    )

pub meet-role-requires-in-Opens : goal.meet-role-requires-in-Opens
meet-role-requires-in-Opens c =
    let t = c.args.text.now in
    let place = c.run_end-start.result in
    let behind = c.run_end-name_end.result in
    let tag = c.run_end-start.ensures in
    let name = c.run_end-name_end.ensures in
    let ended : c.tag_end.result ≡ Ok (Opens c.in-Opens.end) = c.in-Ok.is ∙ ap Ok c.in-Opens.is in
    let read = opened t behind (read_at t place behind) ended (c.tag_end.ensures (word_at t place)) in
    let later = read.later in
    let within = read.within in
    (omega arith, omega arith, omega arith)

pub slice_bounds-name-end-in-Opens : goal.slice_bounds-name-end-in-Opens
slice_bounds-name-end-in-Opens c =
    let t = c.args.text.now in
    let place = c.run_end-start.result in
    let behind = c.run_end-name_end.result in
    let tag = c.run_end-start.ensures in
    let name = c.run_end-name_end.ensures in
    let ended : c.tag_end.result ≡ Ok (Opens c.in-Opens.end) = c.in-Ok.is ∙ ap Ok c.in-Opens.is in
    let read = opened t behind (read_at t place behind) ended (c.tag_end.ensures (word_at t place)) in
    let later = read.later in
    let within = read.within in
    search rules

pub loop-depth-smaller-in-Opens : goal.loop-depth-smaller-in-Opens
loop-depth-smaller-in-Opens c =
    let t = c.args.text.now in
    let place = c.run_end-start.result in
    let behind = c.run_end-name_end.result in
    let tag = c.run_end-start.ensures in
    let name = c.run_end-name_end.ensures in
    let ended : c.tag_end.result ≡ Ok (Opens c.in-Opens.end) = c.in-Ok.is ∙ ap Ok c.in-Opens.is in
    let read = opened t behind (read_at t place behind) ended (c.tag_end.ensures (word_at t place)) in
    let later = read.later in
    let within = read.within in
    omega arith

pub loop-depth-preserved-in-Opens : goal.loop-depth-preserved-in-Opens
loop-depth-preserved-in-Opens c =
    let t = c.args.text.now in
    let place = c.run_end-start.result in
    let behind = c.run_end-name_end.result in
    let tag = c.run_end-start.ensures in
    let name = c.run_end-name_end.ensures in
    let ended : c.tag_end.result ≡ Ok (Opens c.in-Opens.end) = c.in-Ok.is ∙ ap Ok c.in-Opens.is in
    let read = opened t behind (read_at t place behind) ended (c.tag_end.ensures (word_at t place)) in
    let later = read.later in
    let within = read.within in
    let g = c.loop-depth.invariant.going.going in
    let few : c.loop-depth.depth < 16 = let most = g.few in let other = c.if-depth-eq-DEEPEST.false in omega arith in
    let of = opens_of (word_at t place) (attributes_of (drop behind t)) read.tag _ read.read in
    let met = c.meet-role-in-Opens.ensures.met in
    record {
      going =
          going-placed
          c.loop-depth.invariant.going
          (going-opens
          g
          c.loop-depth-test.true
          tag
          (sym c.byte.ensures ∙ c.if-byte-ne60.false)
          (no_slash t _ c.byte-first.ensures c.if-first-eq47.false)
          (first t _ c.is_first.ensures c.byte-first.ensures (ap not c.if-not-is_first.false))
          name
          _
          read.tag
          _
          _
          _
          met.is
          refl
          refl
          read.read
          few
          (omega arith)
          (omega (arith, c.loop-depth.invariant.rows))
          (λ seen k. met.keeps seen read.tag of.space of.rest of.attributes k))
          c.meet-role-in-Opens.ensures.placed;
      within = within;
      rows = rw length-set c.loop-depth.invariant.rows;
    }

pub meet-requires : goal.meet-requires
meet-requires c =
    let t = c.args.text.now in
    let place = c.run_end-start.result in
    let behind = c.run_end-name_end.result in
    let tag = c.run_end-start.ensures in
    let name = c.run_end-name_end.ensures in
    let ended : c.tag_end.result ≡ Ok (Closes c.in-Closes.end) = c.in-Ok.is ∙ ap Ok c.in-Closes.is in
    let read = closed t behind (read_at t place behind) ended (c.tag_end.ensures (word_at t place)) in
    let later = read.later in
    let within = read.within in
    (omega arith, omega arith, omega arith)

pub loop-depth-smaller : goal.loop-depth-smaller
loop-depth-smaller c =
    let t = c.args.text.now in
    let place = c.run_end-start.result in
    let behind = c.run_end-name_end.result in
    let tag = c.run_end-start.ensures in
    let name = c.run_end-name_end.ensures in
    let ended : c.tag_end.result ≡ Ok (Closes c.in-Closes.end) = c.in-Ok.is ∙ ap Ok c.in-Closes.is in
    let read = closed t behind (read_at t place behind) ended (c.tag_end.ensures (word_at t place)) in
    let later = read.later in
    let within = read.within in
    omega arith

pub loop-depth-preserved : goal.loop-depth-preserved
loop-depth-preserved c =
    let t = c.args.text.now in
    let place = c.run_end-start.result in
    let behind = c.run_end-name_end.result in
    let tag = c.run_end-start.ensures in
    let name = c.run_end-name_end.ensures in
    let ended : c.tag_end.result ≡ Ok (Closes c.in-Closes.end) = c.in-Ok.is ∙ ap Ok c.in-Closes.is in
    let read = closed t behind (read_at t place behind) ended (c.tag_end.ensures (word_at t place)) in
    let later = read.later in
    let within = read.within in
    let g = c.loop-depth.invariant.going.going in
    let few : c.loop-depth.depth < 16 = let most = g.few in let other = c.if-depth-eq-DEEPEST.false in omega arith in
    let of = closes-of (word_at t place) (attributes_of (drop behind t)) read.tag _ read.read in
    let met = c.meet.ensures.met in
    record {
      going =
          going-placed
          c.loop-depth.invariant.going
          (going-closes
          g
          c.loop-depth-test.true
          tag
          (sym c.byte.ensures ∙ c.if-byte-ne60.false)
          (no_slash t _ c.byte-first.ensures c.if-first-eq47.false)
          (first t _ c.is_first.ensures c.byte-first.ensures (ap not c.if-not-is_first.false))
          name
          _
          read.tag
          _
          _
          met.is
          read.read
          few
          (omega arith)
          (λ seen k. met.keeps seen read.tag of.space of.rest of.attributes k))
          c.meet.ensures.placed;
      within = within;
      rows = c.loop-depth.invariant.rows;
    }

pub returns-in-Err : goal.returns-in-Err
returns-in-Err c =
    let t = c.args.text.now in
    let place = c.run_end-start.result in
    let behind = c.run_end-name_end.result in (
      not-tag
          c.loop-depth.invariant.going.going
          c.loop-depth-test.true
          c.run_end-start.ensures
          (sym c.byte.ensures ∙ c.if-byte-ne60.false)
          (no_slash t _ c.byte-first.ensures c.if-first-eq47.false)
          (first t _ c.is_first.ensures c.byte-first.ensures (ap not c.if-not-is_first.false))
          c.run_end-name_end.ensures
          (no-tag-there t behind (read_at t place behind) c.in-Err.is (c.tag_end.ensures (word_at t place))),
      c.refused.ensures,
    )
