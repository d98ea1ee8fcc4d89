use mathlib.Core.Path.{◌≡◌, sym, ◌∙◌, ap, ap₂}
use mathlib.Core.Bool.{Bool, true, false}
use mathlib.Core.List.{List}
use Prim.Native.Nat.{ℕ, ◌+◌, ◌-◌, ◌≤◌, ◌<◌}
use native.Mathlib.Omega.{arith}
use Rattle.repeats.specs.Repeats.{name_in, behind, has_name_in, repeats_in}
use Rattle.repeats.specs.Tree.{numbered}
use Rattle.repeats.proofs.Turning.{repeats-here, repeats-behind}
use Rattle.repeats.proofs.Ways.{apart, number-goes, number-over}
use Rattle.repeats.proofs.many.Invariants.{Told}
use Rattle.repeats.proofs.many.Goals as goal

-- before the first attribute
starts : (s : List ℕ) (count : ℕ) (way : List ℕ → ℕ) → count ≤ 13_104 → Told s count way s 0
starts s count way h =
    let all : count - 0 ≡ count = omega arith in
    record {
      own = ap (λ (n : ℕ). numbered way 13_104 n s) (sym all);
      again = λ e. ap (λ (n : ℕ). repeats_in n s) (sym all) ∙ e;
      counted = omega arith;
      fits = h;
    }

-- an attribute, its name, and what stands behind it
module _ {s : List ℕ} {count : ℕ} {way : List ℕ → ℕ} {rest : List ℕ} {i : ℕ} (told : Told s count way rest i) where
  one_more : i < count → (name : List ℕ) → name ≡ name_in rest → (found : ℕ) → found ≡ way name → found ≡ 13_104 + i → (next : List ℕ)
      → next ≡ behind rest → Told s count way next (i + 1)
  one_more h name name-is found found-is own next next-is =
      let some : 0 < count - i = omega arith in
      let less : count - i - 1 ≡ count - (i + 1) = omega arith in
      let later : 13_104 + i + 1 ≡ 13_104 + (i + 1) = omega arith in
      record {
        own =
            told.own
            ∙ number-goes way rest (13_104 + i) (count - i) some (ap way (sym name-is) ∙ sym found-is ∙ own) next next-is
            ∙ ap₂ (λ (k n : ℕ). numbered way k n next) later less;
        again = λ e.
            told.again (repeats-behind rest (count - i) some next next-is (ap (λ (n : ℕ). repeats_in n next) less ∙ e));
        counted = omega arith;
        fits = told.fits;
      }

  stands-again : i < count → (name : List ℕ) → name ≡ name_in rest → (next : List ℕ) → next ≡ behind rest
      → (found : Bool) → found ≡ has_name_in name (count - i - 1) next → found ≡ true → repeats_in count s ≡ true
  stands-again h name name-is next next-is found found-is e =
      told.again
      (repeats-here rest (count - i) (omega arith) next next-is
      (ap (λ (n : List ℕ). has_name_in n (count - i - 1) next) (sym name-is) ∙ sym found-is ∙ e))

  all_told : count ≤ i → repeats_in count s ≡ false
  all_told h = apart way s 13_104 count (told.own ∙ number-over way rest (13_104 + i) (count - i) (omega arith))

pub loop-i-init : goal.loop-i-init
loop-i-init c =
    starts _ _ _ c.requires

pub returns-then-has_name : goal.returns-then-has_name
returns-then-has_name c =
    c.if-has_name.true
    ∙ sym
    (stands-again
    c.loop-i.invariant
    c.loop-i-test.true
    _
    c.name_in-name.ensures
    _
    c.behind-next.ensures
    _
    c.has_name.ensures
    c.if-has_name.true)

pub loop-i-preserved : goal.loop-i-preserved
loop-i-preserved c =
    one_more
    c.loop-i.invariant
    c.loop-i-test.true
    _
    c.name_in-name.ensures
    _
    c.leaf.ensures
    c.if-leaf-i.false
    _
    c.behind-next.ensures

pub returns : goal.returns
returns c =
    sym (all_told c.loop-i.invariant c.loop-i-test.false)
