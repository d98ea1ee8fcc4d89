-- Rows chained by buckets: none at first, and then one more. Assumes nothing.
use mathlib.Core.Path.{◌≡◌, refl, sym, ◌∙◌, ap, subst₂}
use mathlib.Core.Bool.{Bool, true, false, cond}
use mathlib.Core.List.{List}
use mathlib.Core.Logic.{⊎_elim}
use Prim.Native.Nat.{ℕ, zero, suc, ◌+◌, ◌≤◌, ◌<◌}
use native.Mathlib.Nat.{not-suc-le-zero}
use native.Mathlib.Numerals.{add-one}
use native.Mathlib.Omega.{arith}
use borrow.Author.Tests.{eq-eqb, ne_eqb}
use lib.Dec.{eqb}
use lib.ListN.{length, get_or, set, replicate, get_or-replicate}
use lib.Seq.{get_or-set_same, get_or-set_other}
use Rattle.fields.specs.Chains.{last_to, Chained}
use Rattle.fields.proofs.Compared.{same_or_not}

-- the last that passes
pub last-few : (test : ℕ → Bool) (n : ℕ) → last_to test n ≤ n
last-few test zero = omega arith
last-few test (suc n) = go (test n) (last-few test n)
  where
    go : (b : Bool) → last_to test n ≤ n → cond b (suc n) (last_to test n) ≤ suc n
    go true h = omega arith
    go false h = omega arith

pub last-passes : (test : ℕ → Bool) (n i : ℕ) → last_to test n ≡ suc i → test i ≡ true
last-passes test zero i e = absurd (omega arith)
last-passes test (suc n) i e = go (test n) refl (last-passes test n i)
  where
    go : (b : Bool) → test n ≡ b → (last_to test n ≡ suc i → test i ≡ true) → test i ≡ true
    go true t on = let e' : suc n ≡ suc i = rw t at e in let q : n ≡ i = omega arith in ap test (sym q) ∙ t
    go false t on = on (rw t at e)

last-same : (f g : ℕ → Bool) (n : ℕ) → ((i : ℕ) → i < n → f i ≡ g i) → last_to f n ≡ last_to g n
last-same f g zero h = refl
last-same f g (suc n) h = simp (last-same f g n (λ i l. h i (omega arith)), h n (omega arith))

-- no row is chained at first, and then one more
pub none-chained : (buckets : ℕ) (bucket_of : ℕ → ℕ) (links : List ℕ) → Chained buckets bucket_of 0 (replicate buckets 0) links
none-chained buckets bucket_of links =
    record { head = λ h l. get_or-replicate buckets h 0 0 l; link = λ i l. absurd (not-suc-le-zero l) }

more-chained : {buckets : ℕ} {bucket_of : ℕ → ℕ} {n : ℕ} {heads links : List ℕ} → Chained buckets bucket_of n heads links
    → length heads ≡ buckets → n < length links
    → bucket_of n < buckets → Chained buckets bucket_of (n + 1) (set heads (bucket_of n) (n + 1)) (set links n (get_or heads (bucket_of n) 0))
more-chained {buckets} {bucket_of} {n} {heads} {links} c headed linked inside =
    record {
      head = λ h l. rw (add-one n) (⊎_elim (here h) (elsewhere h l) (same_or_not (bucket_of n) h));
      link = λ i l. ⊎_elim (own i) (before i l) (same_or_not i n);
    }
  where
    here : (h : ℕ) → bucket_of n ≡ h
        → get_or (set heads (bucket_of n) (suc n)) h 0 ≡ cond (eqb (bucket_of n) h) (suc n) (last_to (λ j. eqb (bucket_of j) h) n)
    here h e = rw (← e) (get_or-set_same heads (bucket_of n) (suc n) 0 (rw headed inside) ∙ simp (eq-eqb (bucket_of n) (bucket_of n) refl))

    elsewhere : (h : ℕ) → h < buckets → (bucket_of n ≡ h → ⊥)
        → get_or (set heads (bucket_of n) (suc n)) h 0 ≡ cond (eqb (bucket_of n) h) (suc n) (last_to (λ j. eqb (bucket_of j) h) n)
    elsewhere h l other =
        get_or-set_other heads (bucket_of n) h (suc n) 0 (λ e. other (sym e)) ∙ c.head h l ∙ simp (ne_eqb (bucket_of n) h other)

    own : (i : ℕ) → i ≡ n → get_or (set links n (get_or heads (bucket_of n) 0)) i 0 ≡ last_to (λ j. eqb (bucket_of j) (bucket_of i)) i
    own i e = rw e (get_or-set_same links n (get_or heads (bucket_of n) 0) 0 linked ∙ c.head (bucket_of n) inside)

    before : (i : ℕ) → i < n + 1 → (i ≡ n → ⊥)
        → get_or (set links n (get_or heads (bucket_of n) 0)) i 0 ≡ last_to (λ j. eqb (bucket_of j) (bucket_of i)) i
    before i l other = get_or-set_other links n i (get_or heads (bucket_of n) 0) 0 other ∙ c.link i (omega arith)

-- as the code leaves heads and links
pub enchained : {buckets : ℕ} {bucket_of : ℕ → ℕ} {n b : ℕ} {heads links heads' links' : List ℕ}
    → Chained buckets bucket_of n heads links → length heads ≡ buckets
    → n < length links → b ≡ bucket_of n → b < buckets → heads' ≡ set heads b (n + 1) → links' ≡ set links n (get_or heads b 0)
    → Chained buckets bucket_of (n + 1) heads' links'
enchained {buckets} {bucket_of} {n} {b} {heads} {links} c headed linked is inside new-heads new-links =
    subst₂ (Chained buckets bucket_of (n + 1)) (sym (new-heads ∙ ap (λ (x : ℕ). set heads x (n + 1)) is))
    (sym (new-links ∙ ap (λ (x : ℕ). set links n (get_or heads x 0)) is)) (more-chained c headed linked (rw (← is) inside))

-- the same buckets make the same chains
pub same-chained : {buckets : ℕ} {f g : ℕ → ℕ} {n : ℕ} {heads links : List ℕ} → Chained buckets f n heads links
    → ((i : ℕ) → i < n → f i ≡ g i) → Chained buckets g n heads links
same-chained {buckets} {f} {g} {n} c e =
    record {
      head = λ h l. c.head h l ∙ last-same (λ j. eqb (f j) h) (λ j. eqb (g j) h) n (λ j k. ap (λ (b : ℕ). eqb b h) (e j k));
      link = λ i l.
          c.link i l
          ∙ ap (λ (b : ℕ). last_to (λ j. eqb (f j) b) i) (e i l)
          ∙ last-same (λ j. eqb (f j) (g i)) (λ j. eqb (g j) (g i)) i (λ j k. ap (λ (b : ℕ). eqb b (g i)) (e j (omega arith)));
    }
