-- Fields of bytes: quoted text as bytes, padding with zero bytes, and the same bytes.
--     text          a quoted text as bytes, so that what stands in the paper can be written as it stands there
--     value_length   how many bytes stand before the trailing zeros
--     unpadded      those bytes: the value of a field that is padded with zero bytes
--     padded        bytes with zero bytes behind them, w in all
--     joined        rows of bytes, one after the other
--     blank         all bytes are zero
--     same          two lists hold the same bytes
-- Assumes nothing.
use Rattle.std.specs.Prelude.{ℕ, suc, ◌-◌, Bool, true, false, ◌&&◌, cond, List, [], ◌∷◌, ◌++◌, eqb, length, take, replicate}
use Prim.Native.Char.{code}
use Prim.Native.String.{String, [] as end, ◌∷◌ as then}

abbrev pub text : String → List ℕ
text end = []
text (then c s) = code c ∷ text s

abbrev pub blank : List ℕ → Bool
blank [] = true
blank (b ∷ s) = eqb b 0 && blank s

abbrev pub value_length : List ℕ → ℕ
value_length [] = 0
value_length (b ∷ s) = cond (eqb b 0 && blank s) 0 (suc (value_length s))

abbrev pub unpadded : List ℕ → List ℕ
unpadded s = take (value_length s) s

abbrev pub padded : ℕ → List ℕ → List ℕ
padded w s = s ++ replicate (w - length s) 0

abbrev pub joined : List (List ℕ) → List ℕ
joined [] = []
joined (s ∷ rows) = s ++ joined rows

abbrev pub same : List ℕ → List ℕ → Bool
same [] [] = true
same [] (b ∷ t) = false
same (a ∷ s) [] = false
same (a ∷ s) (b ∷ t) = eqb a b && same s t
