-- What a search along a chain of rows finds: the rows are numbers, with a bucket for each, and a test says which of them hold what is
-- searched for. Assumes nothing.
use Rattle.std.proofs.Common.{◌≡◌, ℕ, zero, suc, ◌-◌, ◌<◌, ◌≤◌, Bool, true, false, cond, eqb, List, get_or, sym, refl, ap, ◌∙◌, arith, eq-eqb, eqb-true, Option, Some, None}
use Rattle.fields.specs.Search.{found_or, first_to}
use Rattle.fields.specs.Chains.{last_to, Chained}
use Rattle.fields.proofs.Tests.{never}
use Rattle.fields.proofs.Chaining.{last-few, last-passes}

abbrev last_found : ℕ → Option ℕ
last_found zero = None
last_found (suc i) = Some i

-- what passes g passes f: the last of g is not behind the last of f
last-told : (f g : ℕ → Bool) (n : ℕ) → ((i : ℕ) → i < n → g i ≡ true → f i ≡ true) → last_to g n ≡ last_to g (last_to f n)
last-told f g zero tells = refl
last-told f g (suc n) tells = go (f n) refl (g n) refl (last-told f g n (λ i l. tells i (omega arith)))
  where
    go : (b : Bool) → f n ≡ b → (c : Bool) → g n ≡ c → last_to g n ≡ last_to g (last_to f n)
        → last_to g (suc n) ≡ last_to g (cond (f n) (suc n) (last_to f n))
    go true p c q on = rw p
    go false p true q on = never (sym (tells n (omega arith) q) ∙ p)
    go false p false q on = rw (p, q) on

-- where no two pass, the last is the first
first-none : (test : ℕ → Bool) (n : ℕ) → ((i : ℕ) → i < n → test i ≡ false) → first_to test n ≡ None
first-none test zero h = refl
first-none test (suc n) h = simp (first-none test n (λ i l. h i (omega arith)), h n (omega arith))

found-already : (f : Option ℕ) (n : ℕ) → found_or f n false ≡ f
found-already (Some i) n = refl
found-already None n = refl

first-last : (test : ℕ → Bool) (n : ℕ) → ((i j : ℕ) → i < j → j < n → test i ≡ true → test j ≡ false)
    → first_to test n ≡ last_found (last_to test n)
first-last test zero alone = refl
first-last test (suc n) alone = go (test n) refl (first-last test n (λ i j l k. alone i j l (omega arith)))
  where
    none : test n ≡ true → (i : ℕ) → i < n → (b : Bool) → test i ≡ b → test i ≡ false
    none t i l true e = never (sym t ∙ alone i n l (omega arith) e)
    none t i l false e = e

    go : (b : Bool) → test n ≡ b → first_to test n ≡ last_found (last_to test n)
        → found_or (first_to test n) n (test n) ≡ last_found (cond (test n) (suc n) (last_to test n))
    go true t on = simp (t, first-none test n (λ i l. none t i l (test i) refl))
    go false t on = rw t (found-already (first_to test n) n ∙ on)

-- a row that passes is in the bucket, and no two pass
pub record Searchable (buckets bucket : ℕ) (bucket_of : ℕ → ℕ) (holds : ℕ → Bool) (n : ℕ) (heads links : List ℕ) : Type 0 where
  pub chained : Chained buckets bucket_of n heads links
  pub inside : bucket < buckets
  pub tells : (i : ℕ) → i < n → holds i ≡ true → bucket_of i ≡ bucket
  pub alone : (i j : ℕ) → i < j → j < n → holds i ≡ true → holds j ≡ false

-- what is left of a search stands below a row of the bucket
pub record LeftBelow (bucket : ℕ) (bucket_of : ℕ → ℕ) (holds : ℕ → Bool) (n at : ℕ) : Type 0 where
  pub few : at ≤ n
  pub left : last_to holds n ≡ last_to holds at
  pub own : (i : ℕ) → at ≡ suc i → bucket_of i ≡ bucket

module _ {buckets bucket : ℕ} {bucket_of : ℕ → ℕ} {holds : ℕ → Bool} {n : ℕ} {heads links : List ℕ}
    (s : Searchable buckets bucket bucket_of holds n heads links) where
  abbrev in_bucket : ℕ → Bool
  in_bucket i = eqb (bucket_of i) bucket

  abbrev Left : ℕ → Type 0
  Left at = LeftBelow bucket bucket_of holds n at

  in-bucket : (i : ℕ) → i < n → holds i ≡ true → in_bucket i ≡ true
  in-bucket i l e = eq-eqb (bucket_of i) bucket (s.tells i l e)

  -- at the head
  pub left-at-head : Left (get_or heads bucket 0)
  left-at-head =
      let e = s.chained.head bucket s.inside in
      record {
        few = let l = last-few in_bucket n in omega arith;
        left = last-told in_bucket holds n in-bucket ∙ ap (last_to holds) (sym e);
        own = λ i q. eqb-true (bucket_of i) bucket (last-passes in_bucket n i (sym e ∙ q));
      }

  -- at the row at hand
  module _ {at : ℕ} (some : 0 < at) (w : Left at) where
    abbrev i : ℕ
    i = at - 1

    at-is : at ≡ suc i
    at-is = omega arith

    pub row-below : i < n
    row-below = let l = w.few in omega arith

    -- its link leads to one before it
    link-is : get_or links i 0 ≡ last_to in_bucket i
    link-is = s.chained.link i row-below ∙ ap (λ (b : ℕ). last_to (λ j. eqb (bucket_of j) b) i) (w.own i at-is)

    pub link-falls : get_or links i 0 < at
    link-falls = let e = link-is in let l = last-few in_bucket i in omega arith

    -- it doesn't pass
    pub left-at-link : holds i ≡ false → Left (get_or links i 0)
    left-at-link other =
        let e = link-is in
        record {
          few = let l = last-few in_bucket i in let k = row-below in omega arith;
          left =
              w.left
              ∙ ap (last_to holds) at-is
              ∙ ap (λ (b : Bool). cond b (suc i) (last_to holds i)) other
              ∙ last-told in_bucket holds i (λ j l. in-bucket j (let k = row-below in omega arith))
              ∙ ap (last_to holds) (sym e);
          own = λ j q. eqb-true (bucket_of j) bucket (last-passes in_bucket i j (sym e ∙ q));
        }

    -- it does
    pub found-there : holds i ≡ true → first_to holds n ≡ Some i
    found-there e =
        first-last holds n s.alone
        ∙ ap last_found (w.left ∙ ap (last_to holds) at-is ∙ ap (λ (b : Bool). cond b (suc i) (last_to holds i)) e)

  -- no row is left
  pub found_nowhere : Left 0 → first_to holds n ≡ None
  found_nowhere w = first-last holds n s.alone ∙ ap last_found w.left
