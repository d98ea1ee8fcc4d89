-- A verdict carried out as it stands: who moves by its one amount. Assumes nothing.
--     stays_put                        who stays put is participant 0
--     moved_by_lem                         a cover moves as the decision has it, and there is room for it where there is for the decision's
--     transferred-by                   the covers after a move
use Rattle.std.specs.Prelude.{Option, Some, None}
use mathlib.Core.Path.{◌≡◌, refl}
use mathlib.Core.Bool.{Bool, true, false, ◌&&◌, not, cond}
use mathlib.Core.List.{List}
use Prim.Native.Nat.{ℕ, ◌+◌}
use lib.Dec.{eqb, leb, ltb}
use lib.ListN.{set}
use Rattle.ticket.specs.declared.kinds.Kind.{Kind}
use Rattle.ticket.specs.declared.kinds.Kind.TheVariants as kind
use Rattle.rules.specs.Book.{cover_of}
use Rattle.rules.specs.Cover.{moved, transferred, most_total}
use Rattle.rules.specs.Refusal.{first_of}
use Rattle.rules.specs.Checks.{sender_check, sender_refusal, sending, confirm_refusal, confirming, brings, total_refusal}
use Rattle.rules.specs.declared.checks.Limit.TheVariants.{Within, Above}
use Rattle.rules.specs.declared.decision.Move.{Move}
use Rattle.rules.specs.declared.decision.Move.TheVariants.{Stay, Give, Draw, Reserve, Release, Spend, Credit, Debit}
use Rattle.rules.specs.declared.Cover.{Cover}
use Rattle.rules.specs.declared.verdict.Facts.{Facts}
use Rattle.rules.specs.declared.verdict.Mover.{Mover}
use Rattle.rules.specs.declared.verdict.Verdict.{Verdict}
use Rattle.course.specs.Room.{Room}
use Rattle.verdict.specs.OwnStep.{unless, refused_verdict, cover_moved}
use Rattle.verdict.specs.Judgement.{verdict_for, verdict_of}
use Rattle.verdict.specs.Meaning.{moves_by, transfer_by}
use Rattle.verdict.proofs.Meaning.{confirmed}
use Rattle.verdict.proofs.VerdictLaws.{by_kind}

-- the move that a mover stands for moves a cover the same way, and needs no more room
moved_as : (who : ℕ) (how : Move) (n : ℕ) (c : Cover) → moved (moves_by who how n).how (moves_by who how n).amount c ≡ moved how n c
moved_as who Stay n c = refl
moved_as who Give n c = refl
moved_as who Draw n c = refl
moved_as who Reserve n c = refl
moved_as who Release n c = refl
moved_as who Spend n c = refl
moved_as who Credit n c = refl
moved_as who Debit n c = refl

pub moved_by_lem : (m : Mover) (n : ℕ) (c : Cover) → moved (transfer_by m n).how (transfer_by m n).amount c ≡ moved m.how n c
moved_by_lem m n c = moved_as m.who m.how n c

room_as : (who : ℕ) (how : Move) (n : ℕ) (c : Cover) → Room (moves_by who how n).how (moves_by who how n).amount c → Room how n c
room_as who Stay n c r = r
room_as who Give n c r = r
room_as who Draw n c r = r
room_as who Reserve n c r = r
room_as who Release n c r = r
room_as who Spend n c r = r
room_as who Credit n c r = r
room_as who Debit n c r = r

pub room_by : (m : Mover) (n : ℕ) (c : Cover) → Room (transfer_by m n).how (transfer_by m n).amount c → Room m.how n c
room_by m n c = room_as m.who m.how n c

-- who moves is the one that the decision has, where who stays put is participant 0
abbrev pub StaysPut : Mover → Type 0
StaysPut m = m.how ≡ Stay → m.who ≡ 0

who-as : (who : ℕ) (how : Move) (n : ℕ) → (how ≡ Stay → who ≡ 0) → (moves_by who how n).who ≡ who
who-as who Stay n h = rw (h refl)
who-as who Give n h = refl
who-as who Draw n h = refl
who-as who Reserve n h = refl
who-as who Release n h = refl
who-as who Spend n h = refl
who-as who Credit n h = refl
who-as who Debit n h = refl

pub who-by : (m : Mover) (n : ℕ) → StaysPut m → (transfer_by m n).who ≡ m.who
who-by m n h = who-as m.who m.how n h

pub transferred-by : (m : Mover) (n : ℕ) (cs : List Cover) → StaysPut m
    → transferred (transfer_by m n) cs ≡ set cs m.who (moved m.how n (cover_of cs m.who))
transferred-by m n cs h = rw (who-by m n h, moved_by_lem m n (cover_of cs m.who))

-- of a verdict: both of its movers
pub record Put (v : Verdict) : Type 0 where
  pub first : StaysPut v.first
  pub second : StaysPut v.second

refused-put : (n : ℕ) → Put (refused_verdict n)
refused-put n = record { first = λ e. refl; second = λ e. refl }

-- a confirm moves cover unless it is excluded, and then it is refused
confirm-put : (s : Option ℕ) (n : ℕ) (none within all above : Bool)
    → let how = confirming (confirmed none within all) in
    Put
    (unless
    (first_of (sender_refusal (sender_check s))
    (first_of (confirm_refusal (confirmed none within all)) (total_refusal (cond (brings how && above) Above Within))))
    (cover_moved (sending (sender_check s)) how n))
confirm-put None n none within all above = refused-put 12
confirm-put (Some p) n true true all true = refused-put 22
confirm-put (Some p) n true true all false = record { first = λ e. cc; second = λ e. refl }
confirm-put (Some p) n true false all above = refused-put 21
confirm-put (Some p) n false within true above = record { first = λ e. cc; second = λ e. refl }
confirm-put (Some p) n false within false above = refused-put 21

put-for : (k : Kind) (x : Facts) → Put (verdict_for k x)
put-for kind.CoverIn x = by_kind Put refused-put kind.CoverIn x (record { first = λ e. cc; second = λ e. refl })
put-for kind.CoverOut x = by_kind Put refused-put kind.CoverOut x (record { first = λ e. cc; second = λ e. refl })
put-for kind.Order x = by_kind Put refused-put kind.Order x (record { first = λ e. cc; second = λ e. refl })
put-for kind.Yes x = by_kind Put refused-put kind.Yes x (record { first = λ e. cc; second = λ e. cc })
put-for kind.No x = by_kind Put refused-put kind.No x (record { first = λ e. cc; second = λ e. refl })
put-for kind.Recall x = by_kind Put refused-put kind.Recall x (record { first = λ e. refl; second = λ e. refl })
put-for kind.Return x = by_kind Put refused-put kind.Return x (record { first = λ e. cc; second = λ e. cc })
put-for kind.Decline x = by_kind Put refused-put kind.Decline x (record { first = λ e. refl; second = λ e. refl })
put-for kind.Inquiry x = by_kind Put refused-put kind.Inquiry x (record { first = λ e. refl; second = λ e. refl })
put-for kind.Cut x = by_kind Put refused-put kind.Cut x (record { first = λ e. refl; second = λ e. refl })
put-for kind.Confirm x =
    let c = x.cover in
    confirm-put x.sender x.amount (eqb c.held 0) (not (eqb c.debit 0) && leb x.amount c.debit) (eqb x.amount c.held)
    (ltb most_total (x.total + x.amount))
put-for kind.Tick x = refused-put 0

pub stays_put : (x : Facts) → Put (verdict_of x)
stays_put x = put-for x.kind x
