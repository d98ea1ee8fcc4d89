-- Where no refusal from 12 on applies, each of their conditions fails; and which numbers there are. Assumes nothing.
use mathlib.Core.Path.{◌≡◌, refl}
use mathlib.Core.Bool.{Bool, true, false, cond}
use mathlib.Core.Logic.{◌⊎◌, inl, inr}
use Prim.Native.Nat.{ℕ, ◌≤◌, ◌<◌}
use native.Mathlib.Omega.{arith}
use borrow.Author.Tests.{eqb-true}
use lib.Dec.{eqb}
use Rattle.rules.specs.Refusal.{
  refusal12,
  refusal13,
  refusal14,
  refusal15,
  refusal16,
  refusal17,
  refusal18,
  refusal26,
  refusal19,
  refusal20,
  refusal21,
  refusal22,
  naming_of,
  naming_refusal,
  permission_of,
  permission_refusal,
  backing_of,
  backing_refusal,
  first_of,
  first_refusal,
}
use Rattle.rules.specs.declared.finding.Finding.{Finding}
use Rattle.rules.specs.declared.refusal.Naming.{Naming}
use Rattle.rules.specs.declared.refusal.Naming.TheVariants.{Known, NoParticipant, KeyHeld, NoRoute, Full, KeyNotHeld}
use Rattle.rules.specs.declared.refusal.Permission.{Permission}
use Rattle.rules.specs.declared.refusal.Permission.TheVariants.{Granted, WrongParty, WrongStatus, TooLate, AboveOrder}
use Rattle.rules.specs.declared.refusal.Backing.{Backing}
use Rattle.rules.specs.declared.refusal.Backing.TheVariants.{Backed, TooLittle, NotAsCut, AboveLimit}

pub record NoRefusal (x : Finding) : Type 0 where
  pub r12 : refusal12 x ≡ false
  pub r13 : refusal13 x ≡ false
  pub r14 : refusal14 x ≡ false
  pub r15 : refusal15 x ≡ false
  pub r16 : refusal16 x ≡ false
  pub r17 : refusal17 x ≡ false
  pub r18 : refusal18 x ≡ false
  pub r26 : refusal26 x ≡ false
  pub r19 : refusal19 x ≡ false
  pub r20 : refusal20 x ≡ false
  pub r21 : refusal21 x ≡ false
  pub r22 : refusal22 x ≡ false

-- the number is 0: this answer was not given, and the number of the rest is 0
on : {A : Type 0} (number : A → ℕ) (c : Bool) (a rest : A) → 1 ≤ number a → number (cond c a rest) ≡ 0 → (c ≡ false) × (number rest ≡ 0)
on number true a rest h e = absurd (omega arith)
on number false a rest h e = (refl, e)

-- of two numbers the first that is not 0 is 0: both are
pub both-none : (m n : ℕ) → first_of m n ≡ 0 → (m ≡ 0) × (n ≡ 0)
both-none m n e = go (eqb m 0) refl e
  where
    go : (z : Bool) → eqb m 0 ≡ z → cond z n m ≡ 0 → (m ≡ 0) × (n ≡ 0)
    go true q e' = (eqb-true m 0 q, e')
    go false q e' = absurd (let z : ◌≡◌ {A = Bool} true false = rw e' at q in let n : ◌≡◌ {A = ℕ} 0 1 = cc in omega arith)

pub none-applies : (x : Finding) → first_refusal x ≡ 0 → NoRefusal x
none-applies x e =
    let a = both-none (naming_refusal (naming_of x)) (first_of (permission_refusal (permission_of x)) (backing_refusal (backing_of x))) e in
    let c = both-none (permission_refusal (permission_of x)) (backing_refusal (backing_of x)) a.1 in
    let s12 = on naming_refusal (refusal12 x) NoParticipant _ (omega arith) a.0 in
    let s13 = on naming_refusal (refusal13 x) KeyHeld _ (omega arith) s12.1 in
    let s14 = on naming_refusal (refusal14 x) NoRoute _ (omega arith) s13.1 in
    let s15 = on naming_refusal (refusal15 x) Full _ (omega arith) s14.1 in
    let s16 = on naming_refusal (refusal16 x) KeyNotHeld _ (omega arith) s15.1 in
    let s17 = on permission_refusal (refusal17 x) WrongParty _ (omega arith) c.0 in
    let s18 = on permission_refusal (refusal18 x) WrongStatus _ (omega arith) s17.1 in
    let s26 = on permission_refusal (refusal26 x) TooLate _ (omega arith) s18.1 in
    let s19 = on permission_refusal (refusal19 x) AboveOrder _ (omega arith) s26.1 in
    let s20 = on backing_refusal (refusal20 x) TooLittle _ (omega arith) c.1 in
    let s21 = on backing_refusal (refusal21 x) NotAsCut _ (omega arith) s20.1 in
    let s22 = on backing_refusal (refusal22 x) AboveLimit _ (omega arith) s21.1 in
    record {
      r12 = s12.0;
      r13 = s13.0;
      r14 = s14.0;
      r15 = s15.0;
      r16 = s16.0;
      r17 = s17.0;
      r18 = s18.0;
      r26 = s26.0;
      r19 = s19.0;
      r20 = s20.0;
      r21 = s21.0;
      r22 = s22.0;
    }

-- no refusal, or one from 12 on
abbrev pub Late : ℕ → Type 0
Late n = (n ≡ 0) ⊎ (12 ≤ n)

late-naming : (a : Naming) → Late (naming_refusal a)
late-naming Known = inl refl
late-naming NoParticipant = inr (omega arith)
late-naming KeyHeld = inr (omega arith)
late-naming NoRoute = inr (omega arith)
late-naming Full = inr (omega arith)
late-naming KeyNotHeld = inr (omega arith)

late-permission : (a : Permission) → Late (permission_refusal a)
late-permission Granted = inl refl
late-permission WrongParty = inr (omega arith)
late-permission WrongStatus = inr (omega arith)
late-permission TooLate = inr (omega arith)
late-permission AboveOrder = inr (omega arith)

late-backing : (a : Backing) → Late (backing_refusal a)
late-backing Backed = inl refl
late-backing TooLittle = inr (omega arith)
late-backing NotAsCut = inr (omega arith)
late-backing AboveLimit = inr (omega arith)

late-first : (m n : ℕ) → Late m → Late n → Late (first_of m n)
late-first m n a b = go (eqb m 0)
  where
    go : (z : Bool) → Late (cond z n m)
    go true = b
    go false = a

pub refusal-late : (x : Finding) → Late (first_refusal x)
refusal-late x =
    late-first (naming_refusal (naming_of x)) (first_of (permission_refusal (permission_of x)) (backing_refusal (backing_of x)))
    (late-naming (naming_of x))
    (late-first (permission_refusal (permission_of x)) (backing_refusal (backing_of x)) (late-permission (permission_of x))
    (late-backing (backing_of x)))

-- each fits its byte in an answer
small-naming : (a : Naming) → naming_refusal a < 256
small-naming Known = omega arith
small-naming NoParticipant = omega arith
small-naming KeyHeld = omega arith
small-naming NoRoute = omega arith
small-naming Full = omega arith
small-naming KeyNotHeld = omega arith

small-permission : (a : Permission) → permission_refusal a < 256
small-permission Granted = omega arith
small-permission WrongParty = omega arith
small-permission WrongStatus = omega arith
small-permission TooLate = omega arith
small-permission AboveOrder = omega arith

small-backing : (a : Backing) → backing_refusal a < 256
small-backing Backed = omega arith
small-backing TooLittle = omega arith
small-backing NotAsCut = omega arith
small-backing AboveLimit = omega arith

small-first : (m n : ℕ) → m < 256 → n < 256 → first_of m n < 256
small-first m n a b = go (eqb m 0)
  where
    go : (z : Bool) → cond z n m < 256
    go true = b
    go false = a

pub refusal-small : (x : Finding) → first_refusal x < 256
refusal-small x =
    small-first (naming_refusal (naming_of x)) (first_of (permission_refusal (permission_of x)) (backing_refusal (backing_of x)))
    (small-naming (naming_of x))
    (small-first (permission_refusal (permission_of x)) (backing_refusal (backing_of x)) (small-permission (permission_of x))
    (small-backing (backing_of x)))
