-- A kind and its bytes tell of each other. Assumes nothing.
use Rattle.std.specs.Prelude.{Option, Some}
use mathlib.Core.Path.{◌≡◌, refl, ◌∙◌, ap}
use mathlib.Core.Bool.{Bool, true, false, ◌&&◌, cond}
use mathlib.Core.List.{List, [], ◌∷◌}
use Prim.Native.Nat.{ℕ, ◌≤◌}
use native.Mathlib.Omega.{arith}
use borrow.Author.Tests.{eqb-true, leb-true, le-leb}
use lib.Dec.{leb, eqb}
use Rattle.fields.proofs.Tests.{and_left, and_right}
use Rattle.ticket.specs.Kind.{kind_number, flag_low, flag_high, all_kinds, is_of, kind_among, kinded}
use Rattle.ticket.specs.declared.kinds.Kind.{Kind}
use Rattle.ticket.specs.declared.kinds.Kind.TheVariants.{
  CoverIn,
  CoverOut,
  Order,
  Yes,
  No,
  Recall,
  Return,
  Decline,
  Inquiry,
  Cut,
  Confirm,
  Tick,
}

-- only n lies between n and n
pub no_other : (n c : ℕ) → (c ≡ n → ⊥) → (leb n c && leb c n) ≡ false
no_other n c differs = go (leb n c && leb c n) refl
  where
    go : (b : Bool) → (leb n c && leb c n) ≡ b → b ≡ false
    go true e =
        let l = leb-true n c (and_left (leb n c) (leb c n) e) in
        let h = leb-true c n (and_right (leb n c) (leb c n) e) in
        absurd (differs (omega arith))
    go false e = refl

-- a kind byte and a flag byte are a kind's
pub record KindBytes (k : Kind) (kind flag : ℕ) : Type 0 where
  pub number : kind ≡ kind_number k
  pub low : flag_low k ≤ flag
  pub high : flag ≤ flag_high k

of-tells : (k : Kind) (kind flag : ℕ) → is_of k kind flag ≡ true → KindBytes k kind flag
of-tells k kind flag e =
    let within = and_right (eqb kind (kind_number k)) (leb (flag_low k) flag && leb flag (flag_high k)) e in
    record {
      number = eqb-true kind (kind_number k) (and_left (eqb kind (kind_number k)) (leb (flag_low k) flag && leb flag (flag_high k)) e);
      low = leb-true (flag_low k) flag (and_left (leb (flag_low k) flag) (leb flag (flag_high k)) within);
      high = leb-true flag (flag_high k) (and_right (leb (flag_low k) flag) (leb flag (flag_high k)) within);
    }

among-tells : (ks : List Kind) (kind flag : ℕ) (k : Kind) → kind_among ks kind flag ≡ Some k → is_of k kind flag ≡ true
among-tells [] kind flag k e = let z : ◌≡◌ {A = ℕ} 0 1 = cc in absurd (omega arith)
among-tells (j ∷ ks) kind flag k e = go (is_of j kind flag) refl (among-tells ks kind flag k) e
  where
    go : (b : Bool) → is_of j kind flag ≡ b → (kind_among ks kind flag ≡ Some k → is_of k kind flag ≡ true)
        → ◌≡◌ {A = Option Kind} (cond b (Some j) (kind_among ks kind flag)) (Some k) → is_of k kind flag ≡ true
    go true is on q = let same : j ≡ k = cc in rw same at is
    go false is on q = on q

-- the bytes of a kind that was found
pub kinded-tells : (kind flag : ℕ) (k : Kind) → kinded kind flag ≡ Some k → KindBytes k kind flag
kinded-tells kind flag k e = of-tells k kind flag (among-tells all_kinds kind flag k e)

-- the kind of a kind's bytes
number-kinded : (flag : ℕ) (k : Kind) → (leb (flag_low k) flag && leb flag (flag_high k)) ≡ true → kinded (kind_number k) flag ≡ Some k
number-kinded flag CoverIn e = simp e
number-kinded flag CoverOut e = simp e
number-kinded flag Order e = simp e
number-kinded flag Yes e = simp e
number-kinded flag No e = simp (no_other 1 flag (λ q. let b = of-tells No 4 flag e in let l = b.low in omega arith), e)
number-kinded flag Recall e = simp e
number-kinded flag Return e = simp e
number-kinded flag Decline e = simp e
number-kinded flag Inquiry e = simp e
number-kinded flag Cut e = simp e
number-kinded flag Confirm e = simp e
number-kinded flag Tick e = simp e

pub bytes-kinded : (kind flag : ℕ) (k : Kind) → KindBytes k kind flag → kinded kind flag ≡ Some k
bytes-kinded kind flag k b =
    ap (λ (n : ℕ). kinded n flag) b.number
    ∙ number-kinded flag k (simp (le-leb (flag_low k) flag b.low, le-leb flag (flag_high k) b.high))
