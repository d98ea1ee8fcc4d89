-- A BIC is of bytes, and so is a field that holds a TxId. Assumes nothing.
use Rattle.std.proofs.Common.{◌≡◌, ℕ, zero, suc, ◌<◌, ◌≤◌, Bool, true, false, cond, ◌&&◌, eqb, ltb, leb, List, [], ◌∷◌, ◌++◌, length, get_or, take, drop, sym, refl, ap, ◌∙◌, subst, arith, lit<, take-append-drop, drop-cons, ltb-false, ltb-true, ne_eqb, eqb-true}
use mathlib.Core.Bool.{and-false}
use borrow.Author.Tests.{lt-leb}
use Rattle.fields.specs.Text.{blank, value_length, unpadded}
use Rattle.fields.proofs.Tests.{and_left, and_right}
use Rattle.classes.specs.Class.{is_in, all_in}
use Rattle.classes.specs.declared.Class.{Class}
use Rattle.classes.specs.declared.Class.TheVariants.{
  Capital,
  Digit,
  CapitalOr2To9,
  CapitalButOOrDigit,
  CapitalOrDigit,
  Txid,
}
use Rattle.codes.specs.Bic.{is_bic}
use Rattle.codes.specs.Txid.{is_txid}
use Rattle.codes.proofs.WholeCodes.{bic-length}
use Rattle.index.specs.Words.{Bytes}
use Rattle.fields.proofs.Tests.{never}
use Rattle.index.proofs.Comparing.{rest-bytes}

-- no class has a number that is no byte
none-far : (class : Class) (c : ℕ) → 256 ≤ c → is_in class c ≡ false
none-far Capital c far = simp (lt-leb c 90 (omega arith), and-false)
none-far Digit c far = simp (lt-leb c 57 (omega arith), and-false)
none-far CapitalOr2To9 c far = simp (lt-leb c 90 (omega arith), lt-leb c 57 (omega arith), and-false)
none-far CapitalButOOrDigit c far = simp (lt-leb c 90 (omega arith), lt-leb c 57 (omega arith), and-false)
none-far CapitalOrDigit c far = simp (lt-leb c 90 (omega arith), lt-leb c 57 (omega arith), and-false)
none-far Txid c far =
    let other : (k : ℕ) → k < 256 → eqb c k ≡ false = λ k l. ne_eqb c k (λ e. absurd (omega arith)) in
    simp (
      lt-leb c 90 (omega arith),
      lt-leb c 122 (omega arith),
      lt-leb c 57 (omega arith),
      and-false,
      other 47 (lit< tt),
      other 45 (lit< tt),
      other 63 (lit< tt),
      other 58 (lit< tt),
      other 40 (lit< tt),
      other 41 (lit< tt),
      other 46 (lit< tt),
      other 44 (lit< tt),
      other 39 (lit< tt),
      other 43 (lit< tt),
    )

class-byte : (class : Class) (c : ℕ) → is_in class c ≡ true → c < 256
class-byte class c e = go (ltb c 256) refl
  where
    go : (b : Bool) → ltb c 256 ≡ b → c < 256
    go true h = ltb-true c 256 h
    go false h = never (sym e ∙ none-far class c (ltb-false c 256 h))

-- bytes one after the other
no_bytes : Bytes []
no_bytes = record { below = λ i. lit< tt }

more_bytes : {b : ℕ} {s : List ℕ} → b < 256 → Bytes s → Bytes (b ∷ s)
more_bytes {b} {s} l h = record { below = go }
  where
    go : (i : ℕ) → get_or (b ∷ s) i 0 < 256
    go zero = l
    go (suc i) = h.below i

joined_bytes : (a b : List ℕ) → Bytes a → Bytes b → Bytes (a ++ b)
joined_bytes [] b h k = k
joined_bytes (x ∷ a) b h k = more_bytes (h.below 0) (joined_bytes a b (rest-bytes h) k)

class-bytes : (class : Class) (s : List ℕ) → all_in class s ≡ true → Bytes s
class-bytes class [] e = no_bytes
class-bytes class (c ∷ s) e =
    more_bytes (class-byte class c (and_left (is_in class c) (all_in class s) e))
    (class-bytes class s (and_right (is_in class c) (all_in class s) e))

blank-bytes : (s : List ℕ) → blank s ≡ true → Bytes s
blank-bytes [] e = no_bytes
blank-bytes (b ∷ s) e =
    let zeroth = eqb-true b 0 (and_left (eqb b 0) (blank s) e) in
    more_bytes (omega arith) (blank-bytes s (and_right (eqb b 0) (blank s) e))

-- padding is of bytes
padded-bytes : (s : List ℕ) → Bytes (unpadded s) → Bytes s
padded-bytes [] h = no_bytes
padded-bytes (b ∷ s) h = go (eqb b 0 && blank s) refl (padded-bytes s)
  where
    go : (z : Bool) → (eqb b 0 && blank s) ≡ z → (Bytes (unpadded s) → Bytes s) → Bytes (b ∷ s)
    go true e on = blank-bytes (b ∷ s) e
    go false e on =
        let used = subst (λ (z : Bool). Bytes (take (cond z 0 (suc (value_length s))) (b ∷ s))) e h in
        more_bytes (used.below 0) (on (rest-bytes used))

pub bic-bytes : (s : List ℕ) → is_bic s ≡ true → Bytes s
unfolding is_bic
bic-bytes s e =
    let long = bic-length s e in
    let at_first = eqb (length s) 11 && all_in Capital (take 6 s) in
    let at-seventh = is_in CapitalOr2To9 (get_or s 6 0) in
    let at-eighth = is_in CapitalButOOrDigit (get_or s 7 0) in
    let to-eighth = and_left (at_first && at-seventh && at-eighth) (all_in CapitalOrDigit (drop 8 s)) e in
    let to-seventh = and_left (at_first && at-seventh) at-eighth to-eighth in
    let six = class-bytes Capital (take 6 s)
    (and_right (eqb (length s) 11) (all_in Capital (take 6 s)) (and_left at_first at-seventh to-seventh)) in
    let seventh = class-byte CapitalOr2To9 (get_or s 6 0) (and_right at_first at-seventh to-seventh) in
    let eighth = class-byte CapitalButOOrDigit (get_or s 7 0) (and_right (at_first && at-seventh) at-eighth to-eighth) in
    let three = class-bytes CapitalOrDigit (drop 8 s)
    (and_right (at_first && at-seventh && at-eighth) (all_in CapitalOrDigit (drop 8 s)) e) in
    let behind : drop 6 s ≡ get_or s 6 0 ∷ get_or s 7 0 ∷ drop 8 s =
    drop-cons s 6 0 (omega arith) ∙ ap (λ (t : List ℕ). get_or s 6 0 ∷ t) (drop-cons s 7 0 (omega arith)) in
    subst Bytes (ap (λ (t : List ℕ). take 6 s ++ t) (sym behind) ∙ take-append-drop 6 s)
    (joined_bytes (take 6 s) (get_or s 6 0 ∷ get_or s 7 0 ∷ drop 8 s) six (more_bytes seventh (more_bytes eighth three)))

pub txid-bytes : (s : List ℕ) → is_txid (unpadded s) ≡ true → Bytes s
unfolding is_txid
txid-bytes s e =
    padded-bytes s (class-bytes Txid (unpadded s) (and_right (leb 1 (length (unpadded s)) && leb (length (unpadded s)) 35) _ e))
