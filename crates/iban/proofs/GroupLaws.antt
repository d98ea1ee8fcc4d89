-- What the groups of digits are: a cut of them all, each but the last of seven; and what any cut leaves is the remainder of the number.
-- So a cut from the right, with the first group shorter, leaves the same and has as many groups. Assumes nothing.
use mathlib.Core.Path.{◌≡◌, refl, sym, ◌∙◌, ap}
use mathlib.Core.Bool.{◌&&◌}
use mathlib.Core.List.{List, [], ◌∷◌, ◌++◌}
use Prim.Native.Nat.{ℕ, zero, suc, ◌+◌, ◌-◌, ◌*◌, ◌/◌, ◌%◌, ◌^◌, ◌≤◌, ◌<◌, min}
use native.Mathlib.Nat.{add-mul, mul_assoc, zero-mul, zero-add}
use native.Mathlib.Omega.{arith}
use lib.Dec.{eqb}
use lib.ListN.{length, get_or, take, drop, length-take, length-drop}
use lib.Seq.{take-add, take_all, drop-drop}
use Rattle.fields.specs.Text.{joined}
use Rattle.iban.specs.Iban.{digits, read_decimal, remainder, rearranged, iban_shape, is_iban}
use Rattle.iban.specs.Groups.{sevens, group_count, groups_of, carried_over, over_groups}
use Rattle.iban.proofs.SpeltNumber.{then, then_append}

-- digits written behind a remainder leave what they leave behind the number
remainder-then : (n : ℕ) (ds : List ℕ) → then (n % 97) ds % 97 ≡ then n ds % 97
remainder-then n ds =
    let p = 10 ^ length ds in
    let split : n ≡ 97 * (n / 97) + n % 97 = omega arith in
    let parts : n * p ≡ 97 * (n / 97) * p + n % 97 * p = ap (λ (m : ℕ). m * p) split ∙ add-mul (97 * (n / 97)) (n % 97) p in
    omega (arith, mul_assoc 97 (n / 97) p)

-- over any groups, and so over any cut of the same digits
carried-any : (n : ℕ) (gs : List (List ℕ)) → n < 97 → carried_over n gs ≡ then n (joined gs) % 97
carried-any n [] h = omega arith
carried-any n (g ∷ gs) h =
    carried-any (then n g % 97) gs (omega arith)
    ∙ remainder-then (then n g) (joined gs)
    ∙ ap (λ (m : ℕ). m % 97) (sym (then_append n g (joined gs)))

pub any-cut : (gs : List (List ℕ)) → carried_over 0 gs ≡ read_decimal (joined gs) % 97
any-cut gs = carried-any 0 gs (omega arith) ∙ simp (zero-mul, zero-add)

-- groups of seven but one, wherever it stands, that has up to six digits fewer
pub any-count : (gs : List (List ℕ)) (fewer : ℕ) → fewer < 7 → length (joined gs) + fewer ≡ 7 * length gs
    → length gs ≡ group_count (joined gs)
any-count gs fewer h e = omega arith

sevens-joined : (k : ℕ) (ds : List ℕ) → joined (sevens k ds) ≡ take (7 * k) ds
sevens-joined zero ds = refl
sevens-joined (suc k) ds =
    let at : 7 + 7 * k ≡ 7 * suc k = omega arith in
    ap (λ (es : List ℕ). take 7 ds ++ es) (sevens-joined k (drop 7 ds)) ∙ sym (take-add 7 (7 * k) ds) ∙ ap (λ (n : ℕ). take n ds) at

pub groups-joined : (ds : List ℕ) → joined (groups_of ds) ≡ ds
groups-joined ds = sevens-joined (group_count ds) ds ∙ take_all (7 * group_count ds) ds (omega arith)

pub over-groups : (ds : List ℕ) → over_groups ds ≡ read_decimal ds % 97
over-groups ds = any-cut (groups_of ds) ∙ ap (λ (es : List ℕ). read_decimal es % 97) (groups-joined ds)

pub grouped-remainder : (s : List ℕ) → over_groups (digits s) ≡ remainder s
grouped-remainder s = over-groups (digits s)

-- so the same bytes are IBANs by the groups
pub iban-by-groups : (s : List ℕ) → is_iban s ≡ (iban_shape s && eqb (over_groups (digits (rearranged s))) 1)
unfolding is_iban
iban-by-groups s = ap (λ (r : ℕ). iban_shape s && eqb r 1) (sym (grouped-remainder (rearranged s)))

sevens-counted : (k : ℕ) (ds : List ℕ) → length (sevens k ds) ≡ k
sevens-counted zero ds = refl
sevens-counted (suc k) ds = ap suc (sevens-counted k (drop 7 ds))

pub groups-counted : (ds : List ℕ) → length (groups_of ds) ≡ group_count ds
groups-counted ds = sevens-counted (group_count ds) ds

seven_at : (k i : ℕ) (ds : List ℕ) → i < k → get_or (sevens k ds) i [] ≡ take 7 (drop (7 * i) ds)
seven_at zero i ds h = absurd (omega arith)
seven_at (suc k) zero ds h = refl
seven_at (suc k) (suc i) ds h =
    let at : 7 + 7 * i ≡ 7 * suc i = omega arith in
    seven_at k i (drop 7 ds) (omega arith) ∙ ap (take 7) (drop-drop (7 * i) 7 ds ∙ ap (λ (n : ℕ). drop n ds) at)

-- a group is as long as the digits from its place on, and no longer than seven
group-length : (ds : List ℕ) (i : ℕ) → i < group_count ds → length (get_or (groups_of ds) i []) ≡ min 7 (length ds - 7 * i)
group-length ds i h =
    ap length (seven_at (group_count ds) i ds h) ∙ length-take 7 (drop (7 * i) ds) ∙ ap (min 7) (length-drop (7 * i) ds)

pub group-whole : (ds : List ℕ) (i : ℕ) → i + 1 < group_count ds → length (get_or (groups_of ds) i []) ≡ 7
group-whole ds i h = group-length ds i (omega arith) ∙ omega arith

pub last-group : (ds : List ℕ) (i : ℕ) → i + 1 ≡ group_count ds
    → (1 ≤ length (get_or (groups_of ds) i [])) × (length (get_or (groups_of ds) i []) ≤ 7)
last-group ds i h = let e = group-length ds i (omega arith) in (omega arith, omega arith)
