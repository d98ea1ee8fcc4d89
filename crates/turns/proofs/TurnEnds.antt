-- The ends of a turn: what the code has then is the decision of the rules, carried out, and what is kept beside the book is kept. A law
-- of each for each way it ends. Assumes nothing.
--     did_nothing                   no order changes
--     changed, changed-kept         the order that the ticket is about has another status
--     order-opened                  a new order
--     cut, cut-kept                 all covers are cut
use mathlib.Core.Path.{◌≡◌, refl, sym, ◌∙◌, ap, ap₂, subst}
use mathlib.Core.List.{List, ◌++◌}
use Prim.Native.Nat.{ℕ, ◌+◌}
use native.Mathlib.Omega.{arith}
use lib.ListN.{set}
use lib.Seq.{set-get_or}
use Rattle.fields.specs.Search.{number_of}
use Rattle.dayfile.specs.Route.{rows_followed}
use Rattle.dayfile.specs.declared.roster.Roster.{Roster}
use Rattle.report.specs.declared.Report.{Report}
use Rattle.rules.specs.Book.{no_order, order_of, with_covers}
use Rattle.rules.specs.Status.{with_status}
use Rattle.rules.specs.Cut.{cut_to, cut_reports_to}
use Rattle.rules.specs.Decision.{new_order, applied, told_by}
use Rattle.rules.specs.declared.decision.Decision.{Decision}
use Rattle.rules.specs.declared.verdict.Does.{Does}
use Rattle.rules.specs.declared.verdict.Does.TheVariants.{Nothing, Opens, Becomes, Cuts}
use Rattle.rules.specs.declared.verdict.Verdict.{Verdict}
use Rattle.rules.specs.declared.Status.{Status}
use Rattle.rules.specs.declared.Order.{Order}
use Rattle.rules.specs.declared.Cover.{Cover}
use Rattle.rules.specs.declared.Book.{Book}
use Rattle.course.specs.Room.{Applicable}
use Rattle.course.specs.Seeking.{sought_order, sought}
use Rattle.course.specs.declared.Entry.{Entry}
use Rattle.course.proofs.Applying.{passed-applied, count-grows}
use Rattle.course.proofs.Summing.{all_of, applied-all}
use Rattle.course.proofs.Naming.{KeepsKey, kept-key}
use Rattle.verdict.specs.Judgement.{verdict_of}
use Rattle.verdict.specs.Meaning.{facts_of, decided_by, decision_by}
use Rattle.turns.specs.Index.{KeyIndex}
use Rattle.turns.specs.Kept.{Kept, moved_by}
use Rattle.turns.specs.Turn.{Written, Expired, CarriedOut}
use Rattle.turns.proofs.Index.{same_index}
use Rattle.turns.proofs.Turn.{written-on, after-sound, verdict-applicable}
use Rattle.turns.proofs.VerdictFitting.{verdict_reports, fits, both-moved}
use Rattle.turns.proofs.CarryingOut.{all-is, covers-same, cut-silent}

module _ {b : Book} {t : List ℕ} {e : Entry} {c : Book} (w : Expired b t e c) {v : Verdict}
    (is : v ≡ verdict_of (facts_of (sought c e t))) where
  -- the covers after both moves, and the book that has them
  abbrev both : List Cover
  both = moved_by v.second v.amount (moved_by v.first v.amount c.covers)

  abbrev moved_book : Book
  moved_book = with_covers c both

  -- that book with other covers and orders
  abbrev with : List Cover → List Order → ℕ → Book
  with covers orders count = record { clock = c.clock; covers = covers; orders = orders; count = count; roster = c.roster }

  -- the order's number, and that it is written back as it was
  abbrev number : ℕ
  number = number_of (sought_order c e t)

  written_back : c.orders ≡ set c.orders number (order_of c.orders number)
  written_back = sym (set-get_or c.orders number no_order)

  -- any way it ends, from the decision that the verdict stands for
  module _ (d : Does) (does : v.does ≡ d) where
    abbrev decision : Decision
    decision = decided_by d (sought c e t) v

    decision_is : decision_by (sought c e t) v ≡ decision
    decision_is = ap (λ (y : Does). decided_by y (sought c e t) v) does

    ok : Applicable c decision
    ok = subst (Applicable c) decision_is (verdict-applicable w is)

    carried : {b' : Book} {rows n n' : ℕ} {text text' : List ℕ} → b' ≡ applied c decision → Written (told_by c decision) n text n' text'
        → rows ≡ decision.rows → CarriedOut c (decision_by (sought c e t) v) n text b' n' text' rows
    carried {b'} {rows} {n} {n'} {text} {text'} book told is-rows =
        subst (λ (y : Decision). CarriedOut c y n text b' n' text' rows) (sym decision_is)
        (record { book = book; told = told; rows = is-rows })

    module _ {words_of : Roster → ℕ × List ℕ → List ℕ} {keys : List (List ℕ)} {all m : ℕ}
        (k : Kept words_of moved_book keys all m) where
      -- the index of the book before the moves, which change no key
      index-before : KeyIndex (words_of c.roster) c keys
      index-before = same_index k.index refl (λ i. refl)

      kept-index : KeepsKey c decision → KeyIndex (words_of c.roster) (applied c decision) keys
      kept-index keeps = same_index index-before keeps.count (kept-key c decision (after-sound w).orders.long ok.number keeps)

      kept-as : {keys' : List (List ℕ)} → KeyIndex (words_of c.roster) (applied c decision) keys'
          → Kept words_of (applied c decision) keys' all m
      kept-as index =
          record {
            index = index;
            sum =
                k.sum
                ∙ sym (all-is both)
                ∙ ap all_of (both-moved w is d)
                ∙ sym (applied-all c (after-sound w) decision ok)
                ∙ all-is (applied c decision).covers;
            passed = passed-applied c decision ok (after-sound w).orders.long m k.few (record { none = λ i l. k.passed.none i l });
            few = let more = count-grows c decision ok in let h = k.few in omega arith;
          }

  -- what the code has is the book of the decision
  nothing-is : moved_book ≡ applied c (decided_by Nothing (sought c e t) v)
  nothing-is = ap₂ (λ (x : List Cover) (os : List Order). with x os c.count) (both-moved w is Nothing) written_back

  becomes-is : (s : Status) (i : ℕ) → i ≡ number
      → with both (set c.orders i (with_status (order_of c.orders i) s)) c.count ≡ applied c (decided_by (Becomes s) (sought c e t) v)
  becomes-is s i at =
      ap₂ (λ (x : List Cover) (j : ℕ). with x (set c.orders j (with_status (order_of c.orders j) s)) c.count)
      (both-moved w is (Becomes s)) at

  opens-is : (o : Order) → o ≡ new_order (sought c e t)
      → with both (set c.orders c.count o) (c.count + 1) ≡ applied c (decided_by Opens (sought c e t) v)
  opens-is o is-o =
      ap₂ (λ (x : List Cover) (y : Order). with x (set c.orders c.count y) (c.count + 1)) (both-moved w is Opens) is-o

  cuts-is : with (cut_to c.roster both c.roster.size) c.orders c.count ≡ applied c (decided_by Cuts (sought c e t) v)
  cuts-is =
      ap₂ (λ (x : List Cover) (os : List Order). with (cut_to c.roster x c.roster.size) os c.count) (both-moved w is Cuts) written_back

  pub did_nothing : {b' : Book} {n n' : ℕ} {text text' : List ℕ} → v.does ≡ Nothing → b' ≡ moved_book
      → Written (verdict_reports v) n text n' text' → CarriedOut c (decision_by (sought c e t) v) n text b' n' text' 0
  did_nothing does book told = carried Nothing does (book ∙ nothing-is) told refl

  -- from here on b₂ is the book after the moves
  module _ {b₂ : Book} (moves : b₂ ≡ moved_book) where
    changed-is : {s : Status} {i : ℕ} {o : Order} → i ≡ number → o ≡ with_status (order_of b₂.orders i) s
        → record b₂ { orders = set b₂.orders i o } ≡ applied c (decided_by (Becomes s) (sought c e t) v)
    changed-is {s} {i} at is-o =
        ap (λ (y : Order). record b₂ { orders = set b₂.orders i y }) is-o
        ∙ ap (λ (x : Book). record x { orders = set x.orders i (with_status (order_of x.orders i) s) }) moves
        ∙ becomes-is s i at

    pub changed : {s : Status} {i : ℕ} {o : Order} {b' : Book} {n n' : ℕ} {text text' : List ℕ} → v.does ≡ Becomes s → i ≡ number
        → o ≡ with_status (order_of b₂.orders i) s → b' ≡ record b₂ { orders = set b₂.orders i o }
        → Written (verdict_reports v) n text n' text' → CarriedOut c (decision_by (sought c e t) v) n text b' n' text' 0
    changed {s} does at is-o is_b told = carried (Becomes s) does (is_b ∙ changed-is at is-o) told refl

    opened-is : {o : Order} → o ≡ new_order (sought c e t)
        → record b₂ { orders = set b₂.orders b₂.count o; count = b₂.count + 1 } ≡ applied c (decided_by Opens (sought c e t) v)
    opened-is {o} is-o =
        ap (λ (x : Book). record x { orders = set x.orders x.count o; count = x.count + 1 }) moves ∙ opens-is o is-o

    pub order-opened : {o : Order} {b' : Book} {rows n n' : ℕ} {text text' : List ℕ} → v.does ≡ Opens → o ≡ new_order (sought c e t)
        → b' ≡ record b₂ { orders = set b₂.orders b₂.count o; count = b₂.count + 1 } → rows ≡ rows_followed (sought c e t).way
        → Written (verdict_reports v) n text n' text' → CarriedOut c (decision_by (sought c e t) v) n text b' n' text' rows
    order-opened does is-o is_b is-rows told = carried Opens does (is_b ∙ opened-is is-o) told is-rows

    cut-is : {cs : List Cover} → cs ≡ cut_to b₂.roster b₂.covers b₂.roster.size
        → record b₂ { covers = cs } ≡ applied c (decided_by Cuts (sought c e t) v)
    cut-is is-cs =
        ap (λ (x : List Cover). record b₂ { covers = x }) is-cs
        ∙ ap (λ (x : Book). record x { covers = cut_to x.roster x.covers x.roster.size }) moves
        ∙ cuts-is

    pub cut : {cs : List Cover} {b' : Book} {n n₂ n' : ℕ} {text text₂ text' : List ℕ} → v.does ≡ Cuts
        → cs ≡ cut_to b₂.roster b₂.covers b₂.roster.size → b' ≡ record b₂ { covers = cs }
        → Written (verdict_reports v) n text n₂ text₂
        → Written (cut_reports_to b₂.roster b₂.covers b₂.roster.size) n₂ text₂ n' text'
        → CarriedOut c (decision_by (sought c e t) v) n text b' n' text' 0
    cut {n = n} {n' = n'} {text = text} {text' = text'} does is-cs is_b before told =
        carried Cuts does (is_b ∙ cut-is is-cs)
        (subst (λ (rs : List Report). Written rs n text n' text') all_told (written-on before told)) refl
      where
        all_told : verdict_reports v ++ cut_reports_to b₂.roster b₂.covers b₂.roster.size ≡ told_by c (decided_by Cuts (sought c e t) v)
        all_told =
            ap₂ (λ (x y : List Report). x ++ y) (cut-silent w (fits w is) does)
            (ap (λ (x : Book). cut_reports_to x.roster x.covers x.roster.size) moves
            ∙ ap (λ (x : List Cover). cut_reports_to c.roster x c.roster.size) (covers-same w (fits w is) does))

    module _ {words_of : Roster → ℕ × List ℕ → List ℕ} {keys : List (List ℕ)} {all m : ℕ}
        (k : Kept words_of b₂ keys all m) where
      kept-there : Kept words_of moved_book keys all m
      kept-there = subst (λ (x : Book). Kept words_of x keys all m) moves k

      pub changed-kept : {s : Status} {i : ℕ} {o : Order} → v.does ≡ Becomes s → i ≡ number
          → o ≡ with_status (order_of b₂.orders i) s
          → Kept words_of (record b₂ { orders = set b₂.orders i o }) keys all m
      changed-kept {s} does at is-o =
          subst (λ (x : Book). Kept words_of x keys all m) (sym (changed-is at is-o))
          (kept-as (Becomes s) does kept-there (kept-index (Becomes s) does kept-there (record { count = refl; key = refl })))

      pub cut-kept : {cs : List Cover} → v.does ≡ Cuts → cs ≡ cut_to b₂.roster b₂.covers b₂.roster.size
          → Kept words_of (record b₂ { covers = cs }) keys all m
      cut-kept does is-cs =
          subst (λ (x : Book). Kept words_of x keys all m) (sym (cut-is is-cs))
          (kept-as Cuts does kept-there (kept-index Cuts does kept-there (record { count = refl; key = refl })))
