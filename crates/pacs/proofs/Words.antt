-- What the words of 02, slip 3 (24) say of the named elements that are met, in document order.
--     Among, Ahead     an element is among those met, and stands before another
--     rows-exactly     those that are in order have the rows 0 to 15, in this order, and the five texts hold no element (`texts-plain`)
--     exactly-rows     and those that have are in order
--     lacking, repeated, astray, holding    where a row is missing, twice or behind a higher one, or a text holds an element, they are not
--     judged-24        where they are not in order, 24 is judged; `only-24`: and nowhere else
-- Assumes nothing.
use Prim.Native.Nat.{ℕ, zero, suc, ◌+◌, ◌-◌, ◌≤◌, ◌<◌}
use mathlib.Core.Path.{◌≡◌, refl, ap, ap₂, sym, subst, ◌∙◌}
use mathlib.Core.Bool.{Bool, true, false, ◌&&◌, ◌||◌, not, cond}
use mathlib.Core.List.{List, [], ◌∷◌}
use native.Mathlib.Omega.{arith}
use borrow.Author.Tests.{eqb-true, eqb-false, eq-eqb}
use lib.Dec.{eqb}
use lib.ListN.{length, get_or}
use Rattle.iban.specs.Iban.{is_iban}
use Rattle.fields.proofs.Tests.{and_left, and_right, never}
use Rattle.pacs.specs.Named.{Named, is_text_row, amount_row, iban_row, outside}
use Rattle.pacs.specs.Judged.{refused, accepted, in_order, element_at, text_at, amount_right, codes_right, ticket_of, judged}

pub data Among (m : Named) : List Named → Type 0 where
  first : {k : Named} {more : List Named} → m ≡ k → Among m (k ∷ more)
  later : {k : Named} {more : List Named} → Among m more → Among m (k ∷ more)

pub data Ahead (m k : Named) : List Named → Type 0 where
  before : {j : Named} {more : List Named} → m ≡ j → Among k more → Ahead m k (j ∷ more)
  behind : {j : Named} {more : List Named} → Ahead m k more → Ahead m k (j ∷ more)

-- what is due of the first
pub record Due (n : ℕ) (m : Named) (more : List Named) : Type 0 where
  pub row : m.row ≡ n
  pub plain : is_text_row n ≡ true → m.plain ≡ true
  pub rest : in_order (suc n) more ≡ true

plain-due : (a b : Bool) → (not a || b) ≡ true → a ≡ true → b ≡ true
plain-due true b e h = e
plain-due false b e h = never (sym h)

pub due : (n : ℕ) (m : Named) (more : List Named) → in_order n (m ∷ more) ≡ true → Due n m more
due n m more e =
    let here = eqb m.row n in
    let right = not (is_text_row n) || m.plain in
    let both = and_left (here && right) (in_order (suc n) more) e in
    record {
      row = eqb-true m.row n (and_left here right both);
      plain = plain-due (is_text_row n) m.plain (and_right here right both);
      rest = and_right (here && right) (in_order (suc n) more) e;
    }

-- an element of a list that is in order from n on
pub record Placed (n : ℕ) (ms : List Named) (m : Named) : Type 0 where
  pub from : n ≤ m.row
  pub below : m.row < outside
  pub plain : is_text_row m.row ≡ true → m.plain ≡ true
  pub there : (d : Named) → get_or ms (m.row - n) d ≡ m

in_all : (n : ℕ) (ms : List Named) → in_order n ms ≡ true → n + length ms ≡ outside
in_all n [] e = let z = eqb-true n outside e in omega arith
in_all n (m ∷ more) e = let z = in_all (suc n) more (due n m more e).rest in omega arith

pub placed : (n : ℕ) (ms : List Named) (m : Named) → in_order n ms ≡ true → Among m ms → Placed n ms m
placed n [] m e h = elim h [ ]
placed n (k ∷ more) m e (first same) =
    let d = due n k more e in
    let row : m.row ≡ n = ap (λ (x : Named). x.row) same ∙ d.row in
    let all = in_all n (k ∷ more) e in
    let none : m.row - n ≡ 0 = omega arith in
    record {
      from = omega arith;
      below = omega arith;
      plain = λ h. ap (λ (x : Named). x.plain) same ∙ d.plain (subst (λ (i : ℕ). is_text_row i ≡ true) row h);
      there = λ d. ap (λ (i : ℕ). get_or (k ∷ more) i d) none ∙ sym same;
    }
placed n (k ∷ more) m e (later h) =
    let p = placed (suc n) more m (due n k more e).rest h in
    let from = p.from in
    let on : m.row - n ≡ suc (m.row - suc n) = omega arith in
    record {
      from = omega arith;
      below = p.below;
      plain = p.plain;
      there = λ d. ap (λ (i : ℕ). get_or (k ∷ more) i d) on ∙ p.there d;
    }

abbrev pub rows_of : List Named → List ℕ
rows_of [] = []
rows_of (m ∷ more) = m.row ∷ rows_of more

-- k numbers from n on
abbrev pub numbers : ℕ → ℕ → List ℕ
numbers zero n = []
numbers (suc k) n = n ∷ numbers k (suc n)

rows-from : (n : ℕ) (ms : List Named) → in_order n ms ≡ true → rows_of ms ≡ numbers (length ms) n
rows-from n [] e = refl
rows-from n (m ∷ more) e =
    let d = due n m more e in
    ap₂ ◌∷◌ d.row (rows-from (suc n) more d.rest)

pub rows-exactly : (ms : List Named) → in_order 0 ms ≡ true → rows_of ms ≡ numbers 16 0
rows-exactly ms e =
    let all : length ms ≡ 16 = let z = in_all 0 ms e in omega arith in
    rows-from 0 ms e ∙ ap (λ (k : ℕ). numbers k 0) all

abbrev pub PlainTexts : List Named → Type 0
PlainTexts ms = (m : Named) → Among m ms → is_text_row m.row ≡ true → m.plain ≡ true

pub texts-plain : (ms : List Named) → in_order 0 ms ≡ true → PlainTexts ms
texts-plain ms e m h = (placed 0 ms m e h).plain

due-plain : (a b : Bool) → (a ≡ true → b ≡ true) → (not a || b) ≡ true
due-plain true b f = f refl
due-plain false b f = refl

from-rows : (k n : ℕ) (ms : List Named) → n + k ≡ outside → rows_of ms ≡ numbers k n → PlainTexts ms → in_order n ms ≡ true
from-rows zero n [] all e f = eq-eqb n outside (omega arith)
from-rows zero n (m ∷ more) all e f = cc
from-rows (suc k) n [] all e f = cc
from-rows (suc k) n (m ∷ more) all e f =
    let row : m.row ≡ n = cc in
    let rest : rows_of more ≡ numbers k (suc n) = cc in
    rw (
      eq-eqb m.row n row,
      due-plain (is_text_row n) m.plain (λ h. f m (first refl) (subst (λ (i : ℕ). is_text_row i ≡ true) (sym row) h)),
      from-rows k (suc n) more (omega arith) rest (λ j h. f j (later h)),
    )

pub exactly-rows : (ms : List Named) → rows_of ms ≡ numbers 16 0 → PlainTexts ms → in_order 0 ms ≡ true
exactly-rows ms e f = from-rows 16 0 ms refl e f

-- an element of a row
pub record Found (ms : List Named) (r : ℕ) : Type 0 where
  pub element : Named
  pub among : Among element ms
  pub row : element.row ≡ r

pub row-met : (n : ℕ) (ms : List Named) (r : ℕ) → in_order n ms ≡ true → n ≤ r → r < outside → Found ms r
row-met n [] r e low high = absurd (let z = eqb-true n outside e in omega arith)
row-met n (m ∷ more) r e low high = go (eqb n r) refl (λ further. row-met (suc n) more r (due n m more e).rest further high)
  where
    go : (b : Bool) → eqb n r ≡ b → (suc n ≤ r → Found more r) → Found (m ∷ more) r
    go true h on = record { element = m; among = first refl; row = (due n m more e).row ∙ eqb-true n r h }
    go false h on =
        let other = eqb-false n r h in
        let found = on (omega arith) in
        record { element = found.element; among = later found.among; row = found.row }

pub ascending : (n : ℕ) (ms : List Named) (m k : Named) → in_order n ms ≡ true → Ahead m k ms → m.row < k.row
ascending n [] m k e h = elim h [ ]
ascending n (j ∷ more) m k e (before same h) =
    let d = due n j more e in
    let row : m.row ≡ n = ap (λ (x : Named). x.row) same ∙ d.row in
    let p = (placed (suc n) more k d.rest h).from in
    omega arith
ascending n (j ∷ more) m k e (behind h) = ascending (suc n) more m k (due n j more e).rest h

-- where what follows from order fails, there is none
pub disorder : (ms : List Named) → (in_order 0 ms ≡ true → ⊥) → in_order 0 ms ≡ false
disorder ms f = go (in_order 0 ms) refl
  where
    go : (b : Bool) → in_order 0 ms ≡ b → b ≡ false
    go true e = absurd (f e)
    go false e = refl

-- 02, slip 3 (24): an element of a named path missing
pub lacking : (ms : List Named) (r : ℕ) → r < outside → ((m : Named) → Among m ms → m.row ≡ r → ⊥) → in_order 0 ms ≡ false
lacking ms r high none =
    disorder ms λ e. let found = row-met 0 ms r e (omega arith) high in none found.element found.among found.row

-- twice
pub repeated : (ms : List Named) (m k : Named) → Ahead m k ms → m.row ≡ k.row → in_order 0 ms ≡ false
repeated ms m k h same = disorder ms λ e. let up = ascending 0 ms m k e h in omega arith

-- out of order
pub astray : (ms : List Named) (m k : Named) → Ahead m k ms → k.row < m.row → in_order 0 ms ≡ false
astray ms m k h low = disorder ms λ e. let up = ascending 0 ms m k e h in omega arith

-- a named text holding an element
pub holding : (ms : List Named) (m : Named) → Among m ms → is_text_row m.row ≡ true → m.plain ≡ false → in_order 0 ms ≡ false
holding ms m h named held =
    disorder ms λ e. never (sym ((placed 0 ms m e h).plain named) ∙ held)

pub judged-24 : (time : ℕ) (ms : List Named) → in_order 0 ms ≡ false → judged time ms ≡ refused 24
unfolding judged
judged-24 time ms e = rw e

other : (n k : ℕ) → (n ≡ k → ⊥) → refused n ≡ refused k → ⊥
other n k f e = f cc

accepts : (ticket : List ℕ) (k : ℕ) → accepted ticket ≡ refused k → ⊥
accepts ticket k e = let z : ◌≡◌ {A = ℕ} 0 1 = cc in omega arith

-- the tests of `judged`, in their order
tests-24 : (order amount codes iban : Bool) (ticket : List ℕ)
    → cond order (cond amount (cond codes (cond iban (accepted ticket) (refused 8)) (refused 7)) (refused 25)) (refused 24) ≡ refused 24
    → order ≡ false
tests-24 false amount codes iban ticket e = refl
tests-24 true false codes iban ticket e = absurd (other 25 24 (λ e. omega arith) e)
tests-24 true true false iban ticket e = absurd (other 7 24 (λ e. omega arith) e)
tests-24 true true true false ticket e = absurd (other 8 24 (λ e. omega arith) e)
tests-24 true true true true ticket e = absurd (accepts ticket 24 e)

-- 24 is given in no other case
pub only-24 : (time : ℕ) (ms : List Named) → judged time ms ≡ refused 24 → in_order 0 ms ≡ false
unfolding judged
only-24 time ms e =
    tests-24
    (in_order 0 ms)
    (amount_right (element_at ms amount_row))
    (codes_right ms)
    (is_iban (text_at ms iban_row))
    (ticket_of time ms)
    e
