-- Runs of bytes of a class: what a run is where a byte of another class stands behind it, at the end of a text, and anywhere; and what the
-- classes have in common.
--     run-to          the length of a run, where what stands behind it begins with no byte of the class; run-up-to, past_to
--     run_of          the run before a byte that is written out, and past_of, what stands behind it
--     run-all         the length of a run at the end of a text
--     run_past        a run, and what stands behind it, is the text
--     all-run         a run's bytes are of its class
--     at_byte         a text whose first byte is known
--     first-behind    the first byte of a run and a byte behind it, for a class that has neither
--     space-is        what holds of the four bytes of white space holds of each of them
--     first-is-name   a name's first byte is a byte of a name; name-all, of a whole name
--     first-no-space  a name's first byte is no white space; space-no-first and space-no-name the other way
--     zero-no-space   and the others so named: of which class a single byte is not
--     named-run       the run of a name's bytes is a name where its first byte is a name's first; first-of-name
-- Assumes nothing.
use Prim.Native.Nat.{ℕ, suc}
use mathlib.Core.Path.{◌≡◌, refl, sym, ◌∙◌, ap, subst}
use mathlib.Core.Bool.{Bool, true, false, ◌||◌, cond}
use mathlib.Core.List.{List, [], ◌∷◌, ◌++◌}
use borrow.Author.Tests.{eqb-true}
use lib.Dec.{eqb}
use lib.ListN.{length, take, drop, take-append-drop}
use lib.Seq.{take-append_seam, drop-append_seam}
use Rattle.fields.proofs.Tests.{and_left, and_right, never}
use Rattle.xml.specs.Bytes.{
  is_space,
  is_letter,
  is_encoding_byte,
  is_first,
  is_name,
  is_text,
  is_value,
  all_of,
  is_named,
  run_length,
  run,
  past,
}
use Rattle.xml.specs.Scanning.{first_byte}

none-run : (p : ℕ → Bool) (t : List ℕ) → p (first_byte t) ≡ false → run_length p t ≡ 0
none-run p [] h = refl
none-run p (c ∷ t) h = rw h

run-to : (p : ℕ → Bool) (s t : List ℕ) → all_of p s ≡ true → p (first_byte t) ≡ false → run_length p (s ++ t) ≡ length s
run-to p [] t e h = none-run p t h
run-to p (b ∷ s) t e h =
    ap (λ (x : Bool). cond x (suc (run_length p (s ++ t))) 0) (and_left (p b) (all_of p s) e)
    ∙ ap suc (run-to p s t (and_right (p b) (all_of p s) e) h)

pub run-up-to : (p : ℕ → Bool) (s t : List ℕ) → all_of p s ≡ true → p (first_byte t) ≡ false → run p (s ++ t) ≡ s
run-up-to p s t e h = ap (λ (n : ℕ). take n (s ++ t)) (run-to p s t e h) ∙ take-append_seam s t

pub past_to : (p : ℕ → Bool) (s t : List ℕ) → all_of p s ≡ true → p (first_byte t) ≡ false → past p (s ++ t) ≡ t
past_to p s t e h = ap (λ (n : ℕ). drop n (s ++ t)) (run-to p s t e h) ∙ drop-append_seam s t

-- before a byte that is not of the class
pub run_of : (p : ℕ → Bool) (s : List ℕ) (c : ℕ) (z : List ℕ) → all_of p s ≡ true → p c ≡ false → run p (s ++ (c ∷ z)) ≡ s
run_of p s c z e h = run-up-to p s (c ∷ z) e h

pub past_of : (p : ℕ → Bool) (s : List ℕ) (c : ℕ) (z : List ℕ) → all_of p s ≡ true → p c ≡ false → past p (s ++ (c ∷ z)) ≡ c ∷ z
past_of p s c z e h = past_to p s (c ∷ z) e h

-- at the end of a text
pub run-all : (p : ℕ → Bool) (s : List ℕ) → all_of p s ≡ true → run_length p s ≡ length s
run-all p [] e = refl
run-all p (b ∷ s) e =
    ap (λ (x : Bool). cond x (suc (run_length p s)) 0) (and_left (p b) (all_of p s) e)
    ∙ ap suc (run-all p s (and_right (p b) (all_of p s) e))

-- of any text
pub run_past : (p : ℕ → Bool) (s : List ℕ) → run p s ++ past p s ≡ s
run_past p s = take-append-drop (run_length p s) s

pub all-run : (p : ℕ → Bool) (s : List ℕ) → all_of p (run p s) ≡ true
all-run p [] = refl
all-run p (b ∷ s) = go (p b) refl (all-run p s)
  where
    go : (x : Bool) → p b ≡ x → all_of p (run p s) ≡ true → all_of p (take (cond x (suc (run_length p s)) 0) (b ∷ s)) ≡ true
    go true e rest = rw e rest
    go false e rest = refl

-- first bytes
pub at_byte : (s : List ℕ) (c : ℕ) → eqb 0 c ≡ false → eqb (first_byte s) c ≡ true → c ∷ drop 1 s ≡ s
at_byte [] c none e = never (sym e ∙ none)
at_byte (b ∷ s) c none e = ap (λ (x : ℕ). x ∷ s) (sym (eqb-true b c e))

pub first-behind : (p q : ℕ → Bool) (s : List ℕ) (c : ℕ) (z : List ℕ) → ((b : ℕ) → q b ≡ true → p b ≡ false) → all_of q s ≡ true
    → p c ≡ false → p (first_byte (s ++ (c ∷ z))) ≡ false
first-behind p q [] c z apart e h = h
first-behind p q (b ∷ s) c z apart e h = apart b (and_left (q b) (all_of q s) e)

-- the classes
one_of : (b c : ℕ) (x : Bool) (P : ℕ → Type 0) → P c → (x ≡ true → P b) → (x || eqb b c) ≡ true → P b
one_of b c true P at rest e = rest refl
one_of b c false P at rest e = subst P (sym (eqb-true b c e)) at

space-is : (P : ℕ → Type 0) → P 0x20 → P 0x09 → P 0x0d → P 0x0a → (b : ℕ) → is_space b ≡ true → P b
unfolding is_space
space-is P blank tab return feed b =
    one_of b 0x0a _ P feed (one_of b 0x0d _ P return (one_of b 0x09 _ P tab (λ e. subst P (sym (eqb-true b 0x20 e)) blank)))

pub space-no-name : (b : ℕ) → is_space b ≡ true → is_name b ≡ false
unfolding is_name is_encoding_byte is_letter
space-no-name = space-is (λ b. is_name b ≡ false) refl refl refl refl

space-no-first : (b : ℕ) → is_space b ≡ true → is_first b ≡ false
unfolding is_first is_letter
space-no-first = space-is (λ b. is_first b ≡ false) refl refl refl refl

pub first-no-space : (b : ℕ) → is_first b ≡ true → is_space b ≡ false
first-no-space b e = go (is_space b) refl
  where
    go : (x : Bool) → is_space b ≡ x → x ≡ false
    go true h = never (sym e ∙ space-no-first b h)
    go false h = refl

-- single bytes: the 0 that stands for the end of a text, " / < = > and ?
pub zero-no-space : is_space 0 ≡ false
unfolding is_space
zero-no-space = refl

zero-no-first : is_first 0 ≡ false
unfolding is_first is_letter
zero-no-first = refl

pub quote-no-space : is_space 0x22 ≡ false
unfolding is_space
quote-no-space = refl

pub quote-no-value : is_value 0x22 ≡ false
unfolding is_value
quote-no-value = refl

pub slash-no-space : is_space 0x2f ≡ false
unfolding is_space
slash-no-space = refl

pub slash-no-first : is_first 0x2f ≡ false
unfolding is_first is_letter
slash-no-first = refl

pub slash-no-name : is_name 0x2f ≡ false
unfolding is_name is_encoding_byte is_letter
slash-no-name = refl

pub less-no-space : is_space 0x3c ≡ false
unfolding is_space
less-no-space = refl

pub less-no-text : is_text 0x3c ≡ false
unfolding is_text
less-no-text = refl

pub equals-no-space : is_space 0x3d ≡ false
unfolding is_space
equals-no-space = refl

pub equals-no-name : is_name 0x3d ≡ false
unfolding is_name is_encoding_byte is_letter
equals-no-name = refl

pub greater-no-space : is_space 0x3e ≡ false
unfolding is_space
greater-no-space = refl

pub greater-no-first : is_first 0x3e ≡ false
unfolding is_first is_letter
greater-no-first = refl

pub greater-no-name : is_name 0x3e ≡ false
unfolding is_name is_encoding_byte is_letter
greater-no-name = refl

pub question-no-space : is_space 0x3f ≡ false
unfolding is_space
question-no-space = refl

pub question-no-first : is_first 0x3f ≡ false
unfolding is_first is_letter
question-no-first = refl

-- names
among : (letter line digit dash dot colon : Bool) → (letter || line) ≡ true
    → (letter || digit || line || dash || dot || colon) ≡ true
among true line digit dash dot colon e = refl
among false true true dash dot colon e = refl
among false true false dash dot colon e = refl
among false false digit dash dot colon e = never (sym e)

first-is-name : (b : ℕ) → is_first b ≡ true → is_name b ≡ true
unfolding is_first is_name is_encoding_byte
first-is-name b e = among (is_letter b) (eqb b 0x5f) _ (eqb b 0x2d) (eqb b 0x2e) (eqb b 0x3a) e

pub name-all : (s : List ℕ) → is_named s ≡ true → all_of is_name s ≡ true
name-all [] e = never (sym e)
name-all (b ∷ s) e = rw (first-is-name b (and_left (is_first b) (all_of is_name s) e)) (and_right (is_first b) (all_of is_name s) e)

pub first-of-name : (s t : List ℕ) → is_named s ≡ true → is_first (first_byte (s ++ t)) ≡ true
first-of-name [] t e = never (sym e)
first-of-name (b ∷ s) t e = and_left (is_first b) (all_of is_name s) e

-- the run of a name's bytes is a name where its first byte is one's
pub named-run : (s : List ℕ) → is_first (first_byte s) ≡ true → is_named (run is_name s) ≡ true
named-run [] e = never (sym e ∙ zero-no-first)
named-run (b ∷ s) e = rw (first-is-name b e, e) (all-run is_name s)
