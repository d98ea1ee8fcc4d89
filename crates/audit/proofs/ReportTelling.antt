-- What is told: laws of the last cut report and of the first report with a code. Assumes nothing.
use mathlib.Core.Path.{◌≡◌, refl, ◌∙◌, ap}
use mathlib.Core.Bool.{Bool, false, ◌&&◌, ◌||◌, cond, and-false}
use mathlib.Core.List.{List, [], ◌∷◌, ◌++◌}
use Prim.Native.Nat.{ℕ}
use lib.Dec.{eqb}
use Rattle.report.specs.declared.Report.{Report}
use Rattle.rules.proofs.Expiring.{AllCode}
use Rattle.audit.specs.Sums.{last_cut_in, first_with}

-- no report is a cut's
abbrev pub is_cut : Report → Bool
is_cut r = eqb r.code 10 || eqb r.code 11

abbrev pub NoCuts : List Report → Type 0
NoCuts [] = Unit {0}
NoCuts (r ∷ rs) = (is_cut r ≡ false) × NoCuts rs

pub cuts-append : (p told : ℕ) (rs ts : List Report) → last_cut_in p told (rs ++ ts) ≡ last_cut_in p (last_cut_in p told rs) ts
cuts-append p told [] ts = refl
cuts-append p told (r ∷ rs) ts = cuts-append p (cond (eqb r.to p && is_cut r) r.code told) rs ts

pub no-cuts : (p told : ℕ) (rs : List Report) → NoCuts rs → last_cut_in p told rs ≡ told
no-cuts p told [] n = refl
no-cuts p told (r ∷ rs) n =
    let quiet : (eqb r.to p && is_cut r) ≡ false = ap (λ (x : Bool). eqb r.to p && x) n.0 ∙ and-false (eqb r.to p) in
    ap (λ (x : Bool). last_cut_in p (cond x r.code told) rs) quiet ∙ no-cuts p told rs n.1

pub fours-no-cuts : (rs : List Report) → AllCode 4 rs → NoCuts rs
fours-no-cuts [] c = tt
fours-no-cuts (r ∷ rs) c = (ap (λ (n : ℕ). eqb n 10 || eqb n 11) c.0, fours-no-cuts rs c.1)

-- the expiries' reports, and then the ticket's own
pub cut-after : (p told : ℕ) (rs₀ rs : List Report) → AllCode 4 rs₀ → NoCuts rs → last_cut_in p told (rs₀ ++ rs) ≡ told
cut-after p told rs₀ rs c n =
    cuts-append p told rs₀ rs ∙ ap (λ (x : ℕ). last_cut_in p x rs) (no-cuts p told rs₀ (fours-no-cuts rs₀ c)) ∙ no-cuts p told rs n

pub first-after : (code : ℕ) (rs₀ rs : List Report) → AllCode 4 rs₀ → eqb 4 code ≡ false → first_with code (rs₀ ++ rs) ≡ first_with code rs
first-after code [] rs c n = refl
first-after code (r ∷ rs₀) rs c n =
    ap (λ (x : Bool). cond x (r ∷ []) (first_with code (rs₀ ++ rs))) (ap (λ (k : ℕ). eqb k code) c.0 ∙ n)
    ∙ first-after code rs₀ rs c.1 n
