-- A verdict can be carried out as it stands: its numbers are in range, and there is room for what it moves. Assumes nothing.
--     verdict_reports    what is told
--     Fits              what the code needs of a verdict, so that no index, sum or difference of it leaves its range
--     fits              the verdict on what is sought has it
use mathlib.Core.Path.{◌≡◌, refl, sym, ◌∙◌, ap, ap₂, subst}
use mathlib.Core.List.{List}
use Prim.Native.Nat.{ℕ, ◌≤◌, ◌<◌}
use native.Mathlib.Omega.{arith}
use Rattle.dayfile.specs.FileLimits.{most_participants}
use Rattle.report.specs.declared.Report.{Report}
use Rattle.rules.specs.Book.{most_orders, cover_of}
use Rattle.rules.specs.Cover.{transferred, most_total}
use Rattle.rules.specs.Tell.{listed}
use Rattle.rules.specs.Terms.{terms_of, opens_order}
use Rattle.rules.specs.declared.finding.Finding.{Finding}
use Rattle.rules.specs.declared.decision.Transfer.{Transfer}
use Rattle.rules.specs.declared.verdict.Does.{Does}
use Rattle.rules.specs.declared.verdict.Does.TheVariants.{Nothing, Opens, Becomes, Cuts}
use Rattle.rules.specs.declared.verdict.Verdict.{Verdict}
use Rattle.rules.specs.declared.Cover.{Cover}
use Rattle.rules.specs.declared.Book.{Book}
use Rattle.course.specs.Room.{Room}
use Rattle.course.specs.Seeking.{sought}
use Rattle.course.specs.declared.Entry.{Entry}
use Rattle.course.proofs.SoughtFitting.{any-payer, any-payee, sought-sender-below, sought-order-below, reached-below}
use Rattle.verdict.specs.OwnStep.{cut_verdict}
use Rattle.verdict.specs.Judgement.{verdict_of}
use Rattle.verdict.specs.Meaning.{Gains, ToldBelow, facts_of, transfer_by, notices_told, decided_by}
use Rattle.verdict.proofs.VerdictLaws.{VerdictInRange, verdict-in-range, verdict-gains, cuts-alone, told-below-more}
use Rattle.verdict.proofs.VerdictMoving.{Put, stays_put, room_by, who-by, transferred-by}
use Rattle.turns.specs.Kept.{moved_by}
use Rattle.turns.specs.Turn.{Expired}
use Rattle.turns.proofs.Turn.{after-sound, verdict-applicable}

-- the reports of a verdict
abbrev pub verdict_reports : Verdict → List Report
verdict_reports v = listed (notices_told v.told v.also v.number v.amount)

pub record Fits (c : Book) (v : Verdict) : Type 0 where
  pub first : v.first.who < most_participants
  pub second : v.second.who < most_participants
  pub first_room : Room v.first.how v.amount (cover_of c.covers v.first.who)
  pub second_room : Room v.second.how v.amount (cover_of (moved_by v.first v.amount c.covers) v.second.who)
  pub second_gains : Gains v.second.how
  -- what moves is within the limit; who stays put moves by nothing
  pub first_most : (transfer_by v.first v.amount).amount ≤ most_total
  pub second_most : (transfer_by v.second v.amount).amount ≤ most_total
  pub told : ToldBelow 256 v.told
  pub also : ToldBelow 256 v.also
  pub number : v.number < 65_536
  -- an order is opened only where there is space, and a cut moves no cover by itself, and tells by the cut alone
  pub opens : v.does ≡ Opens → c.count < most_orders
  pub cuts : v.does ≡ Cuts → v ≡ cut_verdict

-- whatever becomes of the order, the moves and the reports are the verdict's
first-as : (d : Does) (x : Finding) (v : Verdict) → (decided_by d x v).first ≡ transfer_by v.first v.amount
first-as Nothing x v = refl
first-as Opens x v = refl
first-as (Becomes s) x v = refl
first-as Cuts x v = refl

second-as : (d : Does) (x : Finding) (v : Verdict) → (decided_by d x v).second ≡ transfer_by v.second v.amount
second-as Nothing x v = refl
second-as Opens x v = refl
second-as (Becomes s) x v = refl
second-as Cuts x v = refl

module _ {b : Book} {t : List ℕ} {e : Entry} {c : Book} (w : Expired b t e c) {v : Verdict} (is : v ≡ verdict_of (facts_of (sought c e t))) where
  put : Put v
  put = subst Put (sym is) (stays_put (facts_of (sought c e t)))

  range : VerdictInRange most_participants 65_536 v
  range =
      let s = after-sound w in
      let order = sought-order-below c s e t in
      subst (VerdictInRange most_participants 65_536) (sym is)
      (verdict-in-range most_participants 65_536 (facts_of (sought c e t))
      (record {
        sender = sought-sender-below c s e t;
        payer = any-payer c s _ order;
        payee = any-payee c s _ order;
        reached = reached-below c s (opens_order (terms_of e.kind).subject) t;
        order = omega arith;
        count = let l = s.orders.count in omega arith;
      }))

  -- the covers after the first move, and after both, whatever becomes of the order
  first-moved : moved_by v.first v.amount c.covers ≡ transferred (transfer_by v.first v.amount) c.covers
  first-moved = sym (transferred-by v.first v.amount c.covers put.first)

  pub both-moved : (d : Does)
      → moved_by v.second v.amount (moved_by v.first v.amount c.covers)
      ≡ transferred (decided_by d (sought c e t) v).second (transferred (decided_by d (sought c e t) v).first c.covers)
  both-moved d =
      sym (transferred-by v.second v.amount (moved_by v.first v.amount c.covers) put.second)
      ∙ ap (transferred (transfer_by v.second v.amount)) first-moved
      ∙ ap₂ (λ (y z : Transfer). transferred z (transferred y c.covers)) (sym (first-as d (sought c e t) v))
      (sym (second-as d (sought c e t) v))

  pub fits : Fits c v
  fits =
      let ok = verdict-applicable w is in
      let x = sought c e t in
      record {
        first = range.first;
        second = range.second;
        second_gains = subst (λ (u : Verdict). Gains u.second.how) (sym is) (verdict-gains (facts_of x));
        first_room =
            room_by v.first v.amount (cover_of c.covers v.first.who)
            (subst (λ (p : ℕ). Room (transfer_by v.first v.amount).how
            (transfer_by v.first v.amount).amount (cover_of c.covers p))
            (who-by v.first v.amount put.first)
            (subst (λ (z : Transfer). Room z.how z.amount (cover_of c.covers z.who)) (first-as v.does x v) ok.first_room));
        second_room =
            let n = v.amount in
            room_by v.second n (cover_of (moved_by v.first n c.covers) v.second.who)
            (subst
            (λ (cs : List Cover). Room (transfer_by v.second n).how (transfer_by v.second n).amount (cover_of cs v.second.who))
            (sym first-moved)
            (subst
            (λ (p : ℕ).
            Room (transfer_by v.second n).how (transfer_by v.second n).amount
            (cover_of (transferred (transfer_by v.first n) c.covers) p))
            (who-by v.second n put.second)
            (subst (λ (z : Transfer). Room z.how z.amount (cover_of (transferred (transfer_by v.first n) c.covers) z.who))
            (second-as v.does x v)
            (subst
            (λ (z : Transfer).
            let y = (decided_by v.does x v).second in Room y.how y.amount (cover_of (transferred z c.covers) y.who))
            (first-as v.does x v) ok.second_room))));
        first_most = subst (λ (z : Transfer). z.amount ≤ most_total) (first-as v.does x v) ok.first_most;
        second_most = subst (λ (z : Transfer). z.amount ≤ most_total) (second-as v.does x v) ok.second_most;
        told = told-below-more most_participants 256 v.told (omega arith) range.told;
        also = told-below-more most_participants 256 v.also (omega arith) range.also;
        number = range.number;
        opens = λ o. subst (λ (d : Does). (decided_by d x v).number < most_orders) o ok.number;
        cuts = λ o. is ∙ cuts-alone (facts_of x) (ap (λ (y : Verdict). y.does) (sym is) ∙ o);
      }
