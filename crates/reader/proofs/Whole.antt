-- What is found in a whole text, by the parts that the reader reads.
--     found-long      a text that is too long
--     found-broken    its prolog isn't one
--     found-astray    its root isn't one
--     found-behind    something stands behind its root
--     found-read      none of these
--     refused-so      the answer where nothing is found, and judged-so, where a document is
--     prolog-at       what the prolog's end tells, and prolog-broken
-- Assumes nothing.
use Prim.Native.Nat.{ℕ, ◌+◌, ◌≤◌, ◌<◌}
use mathlib.Core.Path.{◌≡◌, refl, ap, sym, ◌∙◌}
use mathlib.Core.Bool.{Bool, true, false, cond}
use mathlib.Core.List.{List}
use native.Mathlib.Omega.{arith}
use borrow.Author.Tests.{le-leb, lt-leb}
use lib.ListN.{length, take, drop, length-drop}
use lib.Seq.{drop-drop, take-length}
use Rattle.std.specs.Prelude.{Result, Ok, Err}
use Rattle.fields.proofs.Tests.{never}
use Rattle.xml.specs.Bytes.{is_space, all_of, run_length, run}
use Rattle.xml.specs.Tree.{Element, Prolog, Document}
use Rattle.xml.specs.WellFormed.{longest}
use Rattle.xml.proofs.Runs.{run-all, all-run}
use Rattle.pacs.specs.Named.{Named}
use Rattle.pacs.specs.Walk.{astray, arrived, root_walked, Found, unread, read_as, closed, behind_prolog, prolog_read, found}
use Rattle.pacs.specs.Judged.{judged}
use Rattle.pacs.specs.Answering.{refusal_of, left_in, verdict_of}
use Rattle.prolog.specs.Ends.{PrologRead}

module _ (t : List ℕ) where
  pub found-long : longest < length t → found t ≡ unread
  unfolding found
  found-long h = rw (lt-leb (length t) longest h)

  module _ (fits : length t ≤ longest) where
    found-prolog : found t ≡ prolog_read t
    unfolding found
    found-prolog = rw (le-leb (length t) longest fits)

    pub found-broken : prolog_read t ≡ unread → found t ≡ unread
    found-broken h = found-prolog ∙ h

    module _
        (q : Prolog)
        (place : ℕ)
        {start : ℕ}
        (prolog : prolog_read t ≡ behind_prolog q (drop place t))
        (spaced : start ≡ place + run_length is_space (drop place t)) where
      found-root : found t ≡ closed q (run is_space (drop place t)) (root_walked (drop start t))
      found-root =
          found-prolog
          ∙ prolog
          ∙ ap
          (λ (x : List ℕ). closed q (run is_space (drop place t)) (root_walked x))
          (drop-drop (run_length is_space (drop place t)) place t ∙ ap (λ (k : ℕ). drop k t) (sym spaced))

      pub found-astray : root_walked (drop start t) ≡ astray → found t ≡ unread
      found-astray h = found-root ∙ ap (closed q (run is_space (drop place t))) h

      module _
          (e : Element)
          (seen : List Named)
          (end : ℕ)
          {behind : ℕ}
          (arrives : root_walked (drop start t) ≡ arrived e seen (drop end t))
          (within : end ≤ length t)
          (last : behind ≡ end + run_length is_space (drop end t)) where
        abbrev document : Document
        document = record { prolog = q; space = run is_space (drop place t); root = e; end = drop end t }

        found-end : found t ≡ cond (all_of is_space (drop end t)) (read_as document seen) unread
        found-end = found-root ∙ ap (closed q (run is_space (drop place t))) arrives

        pub found-behind : (behind ≡ length t → ⊥) → found t ≡ unread
        found-behind h = go (all_of is_space (drop end t)) refl
          where
            go : (b : Bool) → all_of is_space (drop end t) ≡ b → found t ≡ unread
            go true w =
                let n = run-all is_space (drop end t) w in
                let l = length-drop end t in
                absurd (h (omega arith))
            go false w = found-end ∙ rw w

        pub found-read : behind ≡ length t → found t ≡ read_as document seen
        found-read h = go (all_of is_space (drop end t)) refl
          where
            go : (b : Bool) → all_of is_space (drop end t) ≡ b → found t ≡ read_as document seen
            go true w = found-end ∙ rw w
            go false w =
                let l = length-drop end t in
                let n : run_length is_space (drop end t) ≡ length (drop end t) = omega arith in
                let whole : run is_space (drop end t) ≡ drop end t =
                ap (λ (k : ℕ). take k (drop end t)) n ∙ take-length (drop end t)
                in
                never (sym (all-run is_space (drop end t)) ∙ ap (all_of is_space) whole ∙ w)

-- the answer to a text that is read, and to one that isn't
pub refused-so : (t before : List ℕ) (time : ℕ) {answer : ℕ} → answer ≡ 23 → found t ≡ unread
    → (answer ≡ refusal_of (verdict_of time (found t))) × (before ≡ left_in before (verdict_of time (found t)))
refused-so t before time {answer} e h =
    (e ∙ sym (ap (λ (x : Found). refusal_of (verdict_of time x)) h), sym (ap (λ (x : Found). left_in before (verdict_of time x)) h))

pub judged-so : (t before after : List ℕ) (time : ℕ) {answer : ℕ} (d : Document) (seen : List Named) → found t ≡ read_as d seen
    → (answer ≡ refusal_of (judged time seen)) × (after ≡ left_in before (judged time seen))
    → (answer ≡ refusal_of (verdict_of time (found t))) × (after ≡ left_in before (verdict_of time (found t)))
judged-so t before after time d seen h j =
    (j.0 ∙ sym (ap (λ (x : Found). refusal_of (verdict_of time x)) h), j.1 ∙ sym (ap (λ (x : Found). left_in before (verdict_of time x)) h))

-- what the functions below told, by the case that they answered
pub prolog-at : (t : List ℕ) {e : Result ℕ ℕ} {p : ℕ} → e ≡ Ok p → PrologRead t e
    → (q : Prolog) × (prolog_read t ≡ behind_prolog q (drop p t)) × (p ≤ length t)
prolog-at t is h = rw is at h

pub prolog-broken : (t : List ℕ) {e : Result ℕ ℕ} {p : ℕ} → e ≡ Err p → PrologRead t e → prolog_read t ≡ unread
prolog-broken t is h = (rw is at h).0
