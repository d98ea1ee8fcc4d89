-- The first groups of seven digits, with more digits behind them, and what is carried over one group more. Assumes nothing.
use mathlib.Core.Path.{◌≡◌, refl, sym, ◌∙◌, ap}
use mathlib.Core.List.{List, [], ◌∷◌, ◌++◌}
use Prim.Native.Nat.{ℕ, zero, suc, ◌+◌, ◌*◌, ◌%◌, ◌^◌, ◌≤◌, ◌<◌}
use native.Mathlib.Omega.{arith}
use lib.ListN.{length, take, drop, length-drop}
use lib.Seq.{take-append-le, take-append-add, drop-append-le, drop-append-add, drop-drop}
use Rattle.iban.specs.Iban.{read_decimal}
use Rattle.iban.specs.Groups.{sevens, carried_over}

-- digits behind the first k groups leave them as they are
pub sevens-append : (k : ℕ) (ds es : List ℕ) → 7 * k ≤ length ds → sevens k (ds ++ es) ≡ sevens k ds
sevens-append zero ds es h = refl
sevens-append (suc k) ds es h =
    rw (take-append-le 7 ds es (omega arith), drop-append-le 7 ds es (omega arith))
    (ap (λ (gs : List (List ℕ)). take 7 ds ∷ gs) (sevens-append k (drop 7 ds) es (rw length-drop (omega arith))))

sevens-more : (k : ℕ) (ds : List ℕ) → sevens (suc k) ds ≡ sevens k ds ++ (take 7 (drop (7 * k) ds) ∷ [])
sevens-more zero ds = refl
sevens-more (suc k) ds =
    let at : 7 + 7 * k ≡ 7 * suc k = omega arith in
    ap (λ (gs : List (List ℕ)). take 7 ds ∷ gs)
    (sevens-more k (drop 7 ds)
    ∙ ap (λ (es : List ℕ). sevens k (drop 7 ds) ++ (take 7 es ∷ [])) (drop-drop (7 * k) 7 ds ∙ ap (λ (i : ℕ). drop i ds) at))

carried-append : (n : ℕ) (gs fs : List (List ℕ)) → carried_over n (gs ++ fs) ≡ carried_over (carried_over n gs) fs
carried-append n [] fs = refl
carried-append n (g ∷ gs) fs = carried-append ((n * 10 ^ length g + read_decimal g) % 97) gs fs

-- over a group more, whose digits are known
pub carried-more : (n k : ℕ) (ds g : List ℕ) → take 7 (drop (7 * k) ds) ≡ g
    → carried_over n (sevens (suc k) ds) ≡ (carried_over n (sevens k ds) * 10 ^ length g + read_decimal g) % 97
carried-more n k ds g e =
    ap (carried_over n) (sevens-more k ds ∙ ap (λ (g : List ℕ). sevens k ds ++ (g ∷ [])) e) ∙ carried-append n (sevens k ds) (g ∷ [])

pub carried-below : (n : ℕ) (gs : List (List ℕ)) → n < 97 → carried_over n gs < 97
carried-below n [] h = h
carried-below n (g ∷ gs) h = carried-below ((n * 10 ^ length g + read_decimal g) % 97) gs (omega arith)

-- seven digits behind the first k groups, of which the last come from es
module _ (k i : ℕ) (ds es : List ℕ) (h : 7 * k ≤ length ds) (e : length (drop (7 * k) ds) + i ≡ 7) where
  pub seven-made : take 7 (drop (7 * k) (ds ++ es)) ≡ drop (7 * k) ds ++ take i es
  seven-made =
      ap (take 7) (drop-append-le (7 * k) ds es h)
      ∙ ap (λ (n : ℕ). take n (drop (7 * k) ds ++ es)) (sym e)
      ∙ take-append-add (drop (7 * k) ds) es i

  pub behind-seven : drop (7 * suc k) (ds ++ es) ≡ drop i es
  behind-seven =
      let at : 7 * suc k ≡ 7 * k + 7 = omega arith in
      ap (λ (n : ℕ). drop n (ds ++ es)) at
      ∙ sym (drop-drop 7 (7 * k) (ds ++ es))
      ∙ ap (drop 7) (drop-append-le (7 * k) ds es h)
      ∙ ap (λ (n : ℕ). drop n (drop (7 * k) ds ++ es)) (sym e)
      ∙ drop-append-add (drop (7 * k) ds) es i
