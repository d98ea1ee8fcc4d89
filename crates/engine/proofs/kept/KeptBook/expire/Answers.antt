-- Orders expire as the rules have it, and what is kept beside the book is kept. Assumes nothing.
use Rattle.std.specs.Prelude.{◌≡◌, set}
use mathlib.Core.Path.{refl, sym, ◌∙◌, ap}
use mathlib.Core.Logic.{inl, inr}
use native.Mathlib.Omega.{arith}
use borrow.Author.Rules.{rules}
use borrow.Author.Tests.{ltb-true, ltb-false}
use Rattle.rules.specs.Book.{order_of}
use Rattle.rules.specs.declared.Cover.{Cover}
use Rattle.course.specs.Expiry.{expiry_of, expiry_in}
use Rattle.turns.proofs.Index.{same_index}
use Rattle.turns.proofs.Turn.{loop-begun, expiries-done}
use Rattle.engine.proofs.Expiring.{count-is, kept-there, below, number-below, payer-below, payee-below, early, freeable, told-fits, one-expired}
use Rattle.engine.proofs.kept.KeptBook.expire.Goals as goal

pub invariant_of-self : goal.invariant_of-self
invariant_of-self c =
    let k = c.args.self.now.kept in
    record {
      kept = record {
        index = same_index k.index refl (λ i. refl);
        sum = k.sum;
        passed = record { none = λ i l. k.passed.none i l };
        few = k.few;
      };
    }

pub loop-self-init : goal.loop-self-init
loop-self-init c =
    let k = c.args.self.now.kept in
    record { sweeping = loop-begun c.args.time c.requires.sound k.passed; low = omega arith; high = k.few; before = k }

pub offset_bounds-self-i : goal.offset_bounds-self-i
offset_bounds-self-i c =
    let v = c.loop-self.invariant in
    let h = number-below c.args.self.now.book c.args.time c.requires.sound v.sweeping v.high c.loop-self-test.true in search rules

pub bounds-self-i : goal.bounds-self-i
bounds-self-i c =
    let v = c.loop-self.invariant in
    number-below c.args.self.now.book c.args.time c.requires.sound v.sweeping v.high c.loop-self-test.true

pub is_young-requires : goal.is_young-requires
is_young-requires c =
    let v = c.loop-self.invariant in
    early c.args.self.now.book c.args.time c.requires.sound v.sweeping v.high c.loop-self-test.true

pub offset_bounds-self-o : goal.offset_bounds-self-o
offset_bounds-self-o c =
    let v = c.loop-self.invariant in
    let h = payee-below c.args.self.now.book c.args.time c.requires.sound v.sweeping v.high c.loop-self-test.true in search rules

pub bounds-self-o : goal.bounds-self-o
bounds-self-o c =
    let v = c.loop-self.invariant in
    payee-below c.args.self.now.book c.args.time c.requires.sound v.sweeping v.high c.loop-self-test.true

pub expire-lapse-requires : goal.expire-lapse-requires
expire-lapse-requires c =
    let v = c.loop-self.invariant in
    let h = payer-below c.args.self.now.book c.args.time c.requires.sound v.sweeping v.high c.loop-self-test.true in let k = payee-below c.args.self.now.book c.args.time c.requires.sound v.sweeping v.high c.loop-self-test.true in let m = number-below c.args.self.now.book c.args.time c.requires.sound v.sweeping v.high c.loop-self-test.true in (early c.args.self.now.book c.args.time c.requires.sound v.sweeping v.high c.loop-self-test.true, omega arith, omega arith, omega arith)

pub offset_bounds-self-i-in-loop-self : goal.offset_bounds-self-i-in-loop-self
offset_bounds-self-i-in-loop-self c =
    let v = c.loop-self.invariant in
    let h = number-below c.args.self.now.book c.args.time c.requires.sound v.sweeping v.high c.loop-self-test.true in search rules

pub bounds-self-i-in-loop-self : goal.bounds-self-i-in-loop-self
bounds-self-i-in-loop-self c =
    let v = c.loop-self.invariant in
    number-below c.args.self.now.book c.args.time c.requires.sound v.sweeping v.high c.loop-self-test.true

pub offset_bounds-self-who : goal.offset_bounds-self-who
offset_bounds-self-who c =
    let v = c.loop-self.invariant in
    let is : c.expire-lapse.result ≡ expiry_in c.loop-self.self.book c.loop-self.self.next =
    c.expire-lapse.ensures
    ∙ ap (expiry_of c.loop-self.self.book.clock c.loop-self.self.next (order_of c.loop-self.self.book.orders c.loop-self.self.next))
    c.is_bank-bank.ensures in
    let h = (freeable c.args.self.now.book c.args.time c.requires.sound v.sweeping v.high c.loop-self-test.true is).who in search rules

pub bounds-self-who : goal.bounds-self-who
bounds-self-who c =
    let v = c.loop-self.invariant in
    let is : c.expire-lapse.result ≡ expiry_in c.loop-self.self.book c.loop-self.self.next =
    c.expire-lapse.ensures
    ∙ ap (expiry_of c.loop-self.self.book.clock c.loop-self.self.next (order_of c.loop-self.self.book.orders c.loop-self.self.next))
    c.is_bank-bank.ensures in
    (freeable c.args.self.now.book c.args.time c.requires.sound v.sweeping v.high c.loop-self-test.true is).who

pub moved-requires : goal.moved-requires
moved-requires c =
    let v = c.loop-self.invariant in
    let is : c.expire-lapse.result ≡ expiry_in c.loop-self.self.book c.loop-self.self.next =
    c.expire-lapse.ensures
    ∙ ap (expiry_of c.loop-self.self.book.clock c.loop-self.self.next (order_of c.loop-self.self.book.orders c.loop-self.self.next))
    c.is_bank-bank.ensures in
    (freeable c.args.self.now.book c.args.time c.requires.sound v.sweeping v.high c.loop-self-test.true is).fits

pub offset_bounds-self-who-in-loop-self : goal.offset_bounds-self-who-in-loop-self
offset_bounds-self-who-in-loop-self c =
    let v = c.loop-self.invariant in
    let is : c.expire-lapse.result ≡ expiry_in c.loop-self.self.book c.loop-self.self.next =
    c.expire-lapse.ensures
    ∙ ap (expiry_of c.loop-self.self.book.clock c.loop-self.self.next (order_of c.loop-self.self.book.orders c.loop-self.self.next))
    c.is_bank-bank.ensures in
    let h = (freeable c.args.self.now.book c.args.time c.requires.sound v.sweeping v.high c.loop-self-test.true is).who in search rules

pub bounds-self-who-in-loop-self : goal.bounds-self-who-in-loop-self
bounds-self-who-in-loop-self c =
    let v = c.loop-self.invariant in
    let is : c.expire-lapse.result ≡ expiry_in c.loop-self.self.book c.loop-self.self.next =
    c.expire-lapse.ensures
    ∙ ap (expiry_of c.loop-self.self.book.clock c.loop-self.self.next (order_of c.loop-self.self.book.orders c.loop-self.self.next))
    c.is_bank-bank.ensures in
    (freeable c.args.self.now.book c.args.time c.requires.sound v.sweeping v.high c.loop-self-test.true is).who

pub put_told-n-requires : goal.put_told-n-requires
put_told-n-requires c =
    let v = c.loop-self.invariant in
    let is : c.expire-lapse.result ≡ expiry_in c.loop-self.self.book c.loop-self.self.next =
    c.expire-lapse.ensures
    ∙ ap (expiry_of c.loop-self.self.book.clock c.loop-self.self.next (order_of c.loop-self.self.book.orders c.loop-self.self.next))
    c.is_bank-bank.ensures in
    told-fits c.args.self.now.book c.args.time c.requires.sound v.sweeping v.high c.loop-self-test.true is c.requires.room

pub overflow_add-self : goal.overflow_add-self
overflow_add-self c =
    let v = c.loop-self.invariant in
    let h = number-below c.args.self.now.book c.args.time c.requires.sound v.sweeping v.high c.loop-self-test.true in search rules

pub invariant_of-self-in-loop-self : goal.invariant_of-self-in-loop-self
invariant_of-self-in-loop-self c =
    let v = c.loop-self.invariant in
    let is : c.expire-lapse.result ≡ expiry_in c.loop-self.self.book c.loop-self.self.next =
    c.expire-lapse.ensures
    ∙ ap (expiry_of c.loop-self.self.book.clock c.loop-self.self.next (order_of c.loop-self.self.book.orders c.loop-self.self.next))
    c.is_bank-bank.ensures in
    let l = below c.args.self.now.book c.args.time c.requires.sound v.sweeping v.high c.loop-self-test.true in
    record {
      kept =
          kept-there c.args.self.now.book c.args.time c.requires.sound (one-expired c.args.self.now.book c.args.time c.requires.sound v.sweeping v.high c.loop-self-test.true is (ltb-false _ _ (sym c.is_young.ensures ∙ c.if-is_young.false)) _ _ _
          (ap
          (λ (z : Cover).
          record c.loop-self.self.book {
            covers = set c.loop-self.self.book.covers c.expire-lapse.result.freed.who z;
            orders = set c.loop-self.self.book.orders c.loop-self.self.next c.expire-lapse.result.order;
          })
          c.moved.ensures)
          c.put_told-n.ensures.1 c.put_told-n.ensures.0) (omega arith) v.before;
    }

pub loop-self-smaller : goal.loop-self-smaller
loop-self-smaller c =
    let v = c.loop-self.invariant in
    let h = below c.args.self.now.book c.args.time c.requires.sound v.sweeping v.high c.loop-self-test.true in omega arith

pub loop-self-preserved : goal.loop-self-preserved
loop-self-preserved c =
    let v = c.loop-self.invariant in
    let is : c.expire-lapse.result ≡ expiry_in c.loop-self.self.book c.loop-self.self.next =
    c.expire-lapse.ensures
    ∙ ap (expiry_of c.loop-self.self.book.clock c.loop-self.self.next (order_of c.loop-self.self.book.orders c.loop-self.self.next))
    c.is_bank-bank.ensures in
    let l = below c.args.self.now.book c.args.time c.requires.sound v.sweeping v.high c.loop-self-test.true in
    record {
      sweeping = one-expired c.args.self.now.book c.args.time c.requires.sound v.sweeping v.high c.loop-self-test.true is (ltb-false _ _ (sym c.is_young.ensures ∙ c.if-is_young.false)) _ _ _
          (ap
          (λ (z : Cover).
          record c.loop-self.self.book {
            covers = set c.loop-self.self.book.covers c.expire-lapse.result.freed.who z;
            orders = set c.loop-self.self.book.orders c.loop-self.self.next c.expire-lapse.result.order;
          })
          c.moved.ensures)
          c.put_told-n.ensures.1 c.put_told-n.ensures.0;
      low = let h = v.low in omega arith;
      high = omega arith;
      before = v.before;
    }

pub returns-after-loop-self-clause-book : goal.returns-after-loop-self-clause-book
returns-after-loop-self-clause-book c =
    let v = c.loop-self.invariant in
    (expiries-done c.args.time c.requires.sound c.args.self.now.kept.passed v.sweeping v.low v.high (inl (let l = c.loop-self-test.false in let q = count-is c.args.self.now.book c.args.time c.requires.sound v.sweeping v.high in omega arith))).0

pub returns-after-loop-self-clause-told : goal.returns-after-loop-self-clause-told
returns-after-loop-self-clause-told c =
    let v = c.loop-self.invariant in
    (expiries-done c.args.time c.requires.sound c.args.self.now.kept.passed v.sweeping v.low v.high (inl (let l = c.loop-self-test.false in let q = count-is c.args.self.now.book c.args.time c.requires.sound v.sweeping v.high in omega arith))).1

pub returns-then-is_young-clause-book : goal.returns-then-is_young-clause-book
returns-then-is_young-clause-book c =
    let v = c.loop-self.invariant in
    (expiries-done c.args.time c.requires.sound c.args.self.now.kept.passed v.sweeping v.low v.high (inr (ltb-true _ _ (sym c.is_young.ensures ∙ c.if-is_young.true)))).0

pub returns-then-is_young-clause-told : goal.returns-then-is_young-clause-told
returns-then-is_young-clause-told c =
    let v = c.loop-self.invariant in
    (expiries-done c.args.time c.requires.sound c.args.self.now.kept.passed v.sweeping v.low v.high (inr (ltb-true _ _ (sym c.is_young.ensures ∙ c.if-is_young.true)))).1
