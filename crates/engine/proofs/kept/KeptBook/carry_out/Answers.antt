-- A verdict is carried out: its moves, its reports, and what becomes of the order. Assumes nothing.
use Rattle.std.specs.Prelude.{◌≡◌, ℕ, ◌<◌, ◌≤◌, List, length}
use mathlib.Core.Path.{refl, sym, ◌∙◌, ap, subst}
use native.Mathlib.Omega.{arith}
use borrow.Author.Rules.{rules}
use Rattle.fields.specs.Search.{number_of}
use Rattle.fields.proofs.Stores.{length_part}
use Rattle.dayfile.specs.Roster.{participant_of}
use Rattle.dayfile.specs.Route.{reached, rows_followed}
use Rattle.rules.specs.Book.{cover_of, with_covers}
use Rattle.rules.specs.Cover.{whole, most_total}
use Rattle.rules.specs.declared.Status.TheVariants.{Waiting}
use Rattle.rules.specs.declared.Cover.{Cover}
use Rattle.rules.specs.declared.Order.{Order}
use Rattle.rules.specs.declared.Book.{Book}
use Rattle.course.specs.Room.{Room}
use Rattle.turns.specs.Kept.{Movable, moved_by}
use Rattle.turns.proofs.Turn.{written-as, written-long, after-sound}
use Rattle.turns.proofs.Facts.{sender-in, order-in, number_is, way-is, new-order, payer-long}
use Rattle.turns.proofs.VerdictFitting.{fits}
use Rattle.turns.proofs.CarryingOut.{first_movable, second_movable, verdict-few, cut-silent, cut-size, cut-whole}
use Rattle.turns.proofs.TurnEnds.{did_nothing, changed, changed-kept, order-opened, cut, cut-kept}
use Rattle.engine.proofs.kept.KeptBook.carry_out.Goals as goal

pub offset_bounds-self-first : goal.offset_bounds-self-first
offset_bounds-self-first c =
    let w = c.requires.after.1 in
    let f = fits w c.requires.verdict in
    let h = f.first in search rules

pub bounds-self-first : goal.bounds-self-first
bounds-self-first c =
    let w = c.requires.after.1 in
    let f = fits w c.requires.verdict in
    f.first

pub moved-new-requires : goal.moved-new-requires
moved-new-requires c =
    let w = c.requires.after.1 in
    let f = fits w c.requires.verdict in
    f.first_room

pub put_cover-requires-clause-fits : goal.put_cover-requires-clause-fits
put_cover-requires-clause-fits c =
    let w = c.requires.after.1 in
    let f = fits w c.requires.verdict in
    first_movable w f

pub put_cover-requires-clause-moved : goal.put_cover-requires-clause-moved
put_cover-requires-clause-moved c =
    c.moved-new.ensures

pub offset_bounds-self-second : goal.offset_bounds-self-second
offset_bounds-self-second c =
    let w = c.requires.after.1 in
    let f = fits w c.requires.verdict in
    let h = f.second in search rules

pub bounds-self-second : goal.bounds-self-second
bounds-self-second c =
    let w = c.requires.after.1 in
    let f = fits w c.requires.verdict in
    f.second

pub gained-new-requires : goal.gained-new-requires
gained-new-requires c =
    let w = c.requires.after.1 in
    let f = fits w c.requires.verdict in
    let e = ap (λ (x : Book). x.covers) c.put_cover.ensures in
    (f.second_gains, subst (λ (x : List Cover). Room c.args.v.second.how c.args.v.amount (cover_of x c.args.v.second.who)) (sym e) f.second_room)

pub put_cover-requires-2-clause-fits : goal.put_cover-requires-2-clause-fits
put_cover-requires-2-clause-fits c =
    let w = c.requires.after.1 in
    let f = fits w c.requires.verdict in
    let e = ap (λ (x : Book). x.covers) c.put_cover.ensures in
    subst (Movable c.args.v.second c.args.v.amount) (sym e) (second_movable w f)

pub put_cover-requires-2-clause-moved : goal.put_cover-requires-2-clause-moved
put_cover-requires-2-clause-moved c =
    c.gained-new.ensures

pub put_notices-n-requires : goal.put_notices-n-requires
put_notices-n-requires c =
    let w = c.requires.after.1 in
    let f = fits w c.requires.verdict in
    let few = verdict-few c.args.v in let h = c.requires.room in (f.told, f.also, f.number, omega arith)

pub txid_of-requires : goal.txid_of-requires
txid_of-requires c =
    c.requires.whole

pub open-requires-clause-room : goal.open-requires-clause-room
open-requires-clause-room c =
    let w = c.requires.after.1 in
    let f = fits w c.requires.verdict in
    let m = c.put_cover-2.ensures ∙ ap (λ (x : Book). with_covers x (moved_by c.args.v.second c.args.v.amount x.covers)) c.put_cover.ensures in
    let e = ap (λ (x : Book). x.count) m in let l = f.opens c.in-Opens.is in omega arith

pub open-requires-clause-long : goal.open-requires-clause-long
open-requires-clause-long c =
    let w = c.requires.after.1 in
    let m = c.put_cover-2.ensures ∙ ap (λ (x : Book). with_covers x (moved_by c.args.v.second c.args.v.amount x.covers)) c.put_cover.ensures in
    let s = after-sound w in
    ap (λ (x : Book). length x.orders) m ∙ s.orders.long

pub open-requires-clause-payer : goal.open-requires-clause-payer
open-requires-clause-payer c =
    let w = c.requires.after.1 in
    let s = after-sound w in
    let l = sender-in s c.requires.sought in let e = c.unwrap_or.ensures in omega arith

pub open-requires-clause-bic : goal.open-requires-clause-bic
open-requires-clause-bic c =
    let w = c.requires.after.1 in
    let m = c.put_cover-2.ensures ∙ ap (λ (x : Book). with_covers x (moved_by c.args.v.second c.args.v.amount x.covers)) c.put_cover.ensures in
    let s = after-sound w in
    let l = sender-in s c.requires.sought in let e = c.unwrap_or.ensures in ap (λ (x : Book). length (participant_of x.roster c.unwrap_or.result).bic) m ∙ payer-long c.args.self.now.book.roster s.roster c.unwrap_or.result (omega arith)

pub open-requires-clause-txid : goal.open-requires-clause-txid
open-requires-clause-txid c =
    ap length c.txid_of.ensures ∙ length_part 35 38 c.args.t.now (let h = c.requires.whole in omega arith)

pub offset_bounds-self-i : goal.offset_bounds-self-i
offset_bounds-self-i c =
    let w = c.requires.after.1 in
    let s = after-sound w in
    let l = order-in s c.requires.sought in let e = c.unwrap_or-i.ensures in let k : c.unwrap_or-i.result < 256 = omega arith in search rules

pub bounds-self-i : goal.bounds-self-i
bounds-self-i c =
    let w = c.requires.after.1 in
    let s = after-sound w in
    let l = order-in s c.requires.sought in let e = c.unwrap_or-i.ensures in omega arith

pub offset_bounds-self-i-in-Becomes : goal.offset_bounds-self-i-in-Becomes
offset_bounds-self-i-in-Becomes c =
    let w = c.requires.after.1 in
    let s = after-sound w in
    let l = order-in s c.requires.sought in let e = c.unwrap_or-i.ensures in let k : c.unwrap_or-i.result < 256 = omega arith in search rules

pub bounds-self-i-in-Becomes : goal.bounds-self-i-in-Becomes
bounds-self-i-in-Becomes c =
    let w = c.requires.after.1 in
    let s = after-sound w in
    let l = order-in s c.requires.sought in let e = c.unwrap_or-i.ensures in omega arith

pub invariant_of-self : goal.invariant_of-self
invariant_of-self c =
    let w = c.requires.after.1 in
    let m = c.put_cover-2.ensures ∙ ap (λ (x : Book). with_covers x (moved_by c.args.v.second c.args.v.amount x.covers)) c.put_cover.ensures in
    let s = after-sound w in
    record { kept = changed-kept w c.requires.verdict m c.put_cover-2.new.self.kept c.in-Becomes.is (c.unwrap_or-i.ensures ∙ number_is s c.requires.sought) c.with_status-changed.ensures }

pub cut_all-n-requires-clause-size : goal.cut_all-n-requires-clause-size
cut_all-n-requires-clause-size c =
    let w = c.requires.after.1 in
    let f = fits w c.requires.verdict in
    let m = c.put_cover-2.ensures ∙ ap (λ (x : Book). with_covers x (moved_by c.args.v.second c.args.v.amount x.covers)) c.put_cover.ensures in
    subst (λ (x : Book). x.roster.size ≤ 32) (sym m) (cut-size w f c.in-Cuts.is)

pub cut_all-n-requires-clause-whole : goal.cut_all-n-requires-clause-whole
cut_all-n-requires-clause-whole c =
    let w = c.requires.after.1 in
    let f = fits w c.requires.verdict in
    let m = c.put_cover-2.ensures ∙ ap (λ (x : Book). with_covers x (moved_by c.args.v.second c.args.v.amount x.covers)) c.put_cover.ensures in
    subst (λ (x : Book). (p : ℕ) → p < x.roster.size → whole (cover_of x.covers p) ≤ most_total) (sym m) (cut-whole w f c.in-Cuts.is)

pub cut_all-n-requires-clause-room : goal.cut_all-n-requires-clause-room
cut_all-n-requires-clause-room c =
    let w = c.requires.after.1 in
    let f = fits w c.requires.verdict in
    let m = c.put_cover-2.ensures ∙ ap (λ (x : Book). with_covers x (moved_by c.args.v.second c.args.v.amount x.covers)) c.put_cover.ensures in
    let told = written-as c.put_notices-n.ensures.0 c.put_notices-n.ensures.1 in
    let size = ap (λ (x : Book). x.roster.size) m in
    let most = cut-size w f c.in-Cuts.is in
    let none = ap length (cut-silent w f c.in-Cuts.is) in
    let n = c.put_notices-n.ensures.1 in
    let long = written-long told in
    let h = c.requires.room in
    omega arith

pub invariant_of-self-in-Cuts : goal.invariant_of-self-in-Cuts
invariant_of-self-in-Cuts c =
    let w = c.requires.after.1 in
    let m = c.put_cover-2.ensures ∙ ap (λ (x : Book). with_covers x (moved_by c.args.v.second c.args.v.amount x.covers)) c.put_cover.ensures in
    record { kept = cut-kept w c.requires.verdict m c.put_cover-2.new.self.kept c.in-Cuts.is c.cut_all-n.ensures.covers }

pub returns-in-Nothing : goal.returns-in-Nothing
returns-in-Nothing c =
    let w = c.requires.after.1 in
    let m = c.put_cover-2.ensures ∙ ap (λ (x : Book). with_covers x (moved_by c.args.v.second c.args.v.amount x.covers)) c.put_cover.ensures in
    let told = written-as c.put_notices-n.ensures.0 c.put_notices-n.ensures.1 in
    did_nothing w c.requires.verdict c.in-Nothing.is m told

pub returns-in-Opens : goal.returns-in-Opens
returns-in-Opens c =
    let w = c.requires.after.1 in
    let m = c.put_cover-2.ensures
    ∙ ap (λ (x : Book). with_covers x (moved_by c.args.v.second c.args.v.amount x.covers)) c.put_cover.ensures in
    let s = after-sound w in
    let made : ◌≡◌ {A = Order}
    (record {
      txid = c.txid_of.result;
      payer = c.unwrap_or.result;
      payee = c.reached.result;
      amount = c.args.s.amount;
      time = c.put_cover-2.new.self.book.clock;
      status = Waiting;
    })
    (record {
      txid = c.txid_of.result;
      payer = number_of c.args.s.sender;
      payee = reached c.args.way;
      amount = c.args.s.amount;
      time = c.args.self.now.book.clock;
      status = Waiting;
    }) =
    λ j. record {
      txid = c.txid_of.result;
      payer = c.unwrap_or.ensures j;
      payee = c.reached.ensures j;
      amount = c.args.s.amount;
      time = (ap (λ (x : Book). x.clock) m) j;
      status = Waiting;
    } in
    order-opened w c.requires.verdict m c.in-Opens.is (made ∙ new-order s c.requires.sought c.txid_of.ensures) c.open.ensures
    (c.rows_followed.ensures ∙ ap rows_followed (way-is s c.requires.sought))
    (written-as c.put_notices-n.ensures.0 c.put_notices-n.ensures.1)

pub returns-in-Becomes : goal.returns-in-Becomes
returns-in-Becomes c =
    let w = c.requires.after.1 in
    let m = c.put_cover-2.ensures ∙ ap (λ (x : Book). with_covers x (moved_by c.args.v.second c.args.v.amount x.covers)) c.put_cover.ensures in
    let s = after-sound w in
    let told = written-as c.put_notices-n.ensures.0 c.put_notices-n.ensures.1 in
    changed w c.requires.verdict m c.in-Becomes.is (c.unwrap_or-i.ensures ∙ number_is s c.requires.sought) c.with_status-changed.ensures refl told

pub returns-in-Cuts : goal.returns-in-Cuts
returns-in-Cuts c =
    let w = c.requires.after.1 in
    let m = c.put_cover-2.ensures ∙ ap (λ (x : Book). with_covers x (moved_by c.args.v.second c.args.v.amount x.covers)) c.put_cover.ensures in
    let told = written-as c.put_notices-n.ensures.0 c.put_notices-n.ensures.1 in
    cut w c.requires.verdict m c.in-Cuts.is c.cut_all-n.ensures.covers refl told c.cut_all-n.ensures.told
