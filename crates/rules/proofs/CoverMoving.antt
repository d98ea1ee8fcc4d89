-- What each move does to a cover, and what a transfer does to the covers: the facts of `CoversSound`, and the total but for what comes
-- in or goes out. Assumes nothing.
use mathlib.Core.Path.{◌≡◌, refl, sym, ◌∙◌, ap}
use mathlib.Core.Bool.{Bool, true, false, cond}
use mathlib.Core.List.{List}
use mathlib.Core.Logic.{◌⊎◌, inl, inr, ⊎_elim}
use Prim.Native.Nat.{ℕ, ◌+◌, ◌≤◌, ◌<◌}
use native.Mathlib.Omega.{arith}
use borrow.Author.Tests.{eq-eqb, ne_eqb}
use lib.Dec.{eqb}
use lib.ListN.{length, set, length-set}
use lib.Seq.{get_or-set_same, get_or-set_other, set-get_or}
use Rattle.fields.proofs.UpTo.{sum-change}
use Rattle.dayfile.specs.FileLimits.{most_participants}
use Rattle.rules.specs.Book.{no_cover, cover_of}
use Rattle.rules.specs.Cover.{moved, Enough, transferred, whole, total_of}
use Rattle.rules.specs.Decision.{nobody}
use Rattle.rules.specs.Sound.{CoversSound}
use Rattle.rules.specs.declared.decision.Move.{Move}
use Rattle.rules.specs.declared.decision.Move.TheVariants.{Stay, Give, Draw, Reserve, Release, Spend, Credit, Debit}
use Rattle.rules.specs.declared.decision.Transfer.{Transfer}
use Rattle.rules.specs.declared.Cover.{Cover}
use Rattle.fields.proofs.Compared.{same_or_not}

-- what comes in, and what goes out
abbrev pub gain : Move → ℕ → ℕ
gain Stay n = 0
gain Give n = n
gain Draw n = 0
gain Reserve n = 0
gain Release n = 0
gain Spend n = 0
gain Credit n = 0
gain Debit n = n

abbrev pub loss : Move → ℕ → Cover → ℕ
loss Stay n c = 0
loss Give n c = 0
loss Draw n c = n
loss Reserve n c = 0
loss Release n c = 0
loss Spend n c = n
loss Credit n c = c.held
loss Debit n c = 0

whole-moved : (m : Move) (n : ℕ) (c : Cover) → Enough m n c → whole (moved m n c) + loss m n c ≡ whole c + gain m n
whole-moved Stay n c h = refl
whole-moved Give n c h = omega arith
whole-moved Draw n c h = omega arith
whole-moved Reserve n c h = omega arith
whole-moved Release n c h = omega arith
whole-moved Spend n c h = omega arith
whole-moved Credit n c h = omega arith
whole-moved Debit n c h = omega arith

-- what is reserved more, and what less
abbrev pub bound : Move → ℕ → ℕ
bound Stay n = 0
bound Give n = 0
bound Draw n = 0
bound Reserve n = n
bound Release n = 0
bound Spend n = 0
bound Credit n = 0
bound Debit n = 0

abbrev pub unbound : Move → ℕ → ℕ
unbound Stay n = 0
unbound Give n = 0
unbound Draw n = 0
unbound Reserve n = 0
unbound Release n = n
unbound Spend n = n
unbound Credit n = 0
unbound Debit n = 0

reserved-moved : (m : Move) (n : ℕ) (c : Cover) → Enough m n c → (moved m n c).reserved + unbound m n ≡ c.reserved + bound m n
reserved-moved Stay n c h = refl
reserved-moved Give n c h = refl
reserved-moved Draw n c h = refl
reserved-moved Reserve n c h = omega arith
reserved-moved Release n c h = omega arith
reserved-moved Spend n c h = omega arith
reserved-moved Credit n c h = refl
reserved-moved Debit n c h = refl

-- nobody has both held and open debit
abbrev pub Either : Cover → Type 0
Either c = (c.held ≡ 0) ⊎ (c.debit ≡ 0)

either-moved : (m : Move) (n : ℕ) (c : Cover) → Either c → Either (moved m n c)
either-moved Stay n c e = e
either-moved Give n c e = e
either-moved Draw n c e = e
either-moved Reserve n c e = e
either-moved Release n c e = e
either-moved Spend n c e = e
either-moved Credit n c e = inl refl
either-moved Debit n c e = inr refl

-- a number that counts for one participant only
abbrev pub only_for : ℕ → ℕ → ℕ → ℕ
only_for who p n = cond (eqb who p) n 0

pub for-who : (who p n : ℕ) → p ≡ who → only_for who p n ≡ n
for-who who p n e = simp (eq-eqb who p (sym e))

pub for-others : (who p n : ℕ) → (p ≡ who → ⊥) → only_for who p n ≡ 0
for-others who p n k = simp (ne_eqb who p (λ e. k (sym e)))

pub for-none : (who p : ℕ) → only_for who p 0 ≡ 0
for-none who p = go (eqb who p)
  where
    go : (x : Bool) → ◌≡◌ {A = ℕ} (cond x 0 0) 0
    go true = refl
    go false = refl

-- whoever stays leaves the covers as they are
pub nobody-moves : (cs : List Cover) → transferred nobody cs ≡ cs
nobody-moves cs = set-get_or cs 0 no_cover

-- covers of 32 participants, of which size are in use
pub record Fitted (size : ℕ) (cs : List Cover) : Type 0 where
  pub few : size ≤ most_participants
  pub long : length cs ≡ most_participants

module _ {size : ℕ} {cs : List Cover} (fit : Fitted size cs) where
  -- a participant's cover is set to c
  module _ (p : ℕ) (h : p < size) (c : Cover) where
    pub set_here : cover_of (set cs p c) p ≡ c
    set_here = get_or-set_same cs p c no_cover (rw fit.long (let f = fit.few in omega arith))

    pub set_there : (q : ℕ) → (q ≡ p → ⊥) → cover_of (set cs p c) q ≡ cover_of cs q
    set_there q n = get_or-set_other cs p q c no_cover n

    pub set-total : total_of size (set cs p c) + whole (cover_of cs p) ≡ total_of size cs + whole c
    set-total =
        sym (sum-change (λ q. whole (cover_of cs q)) (λ q. whole (cover_of (set cs p c) q)) size p h
        (λ q l n. ap whole (sym (set_there q n))))
        ∙ ap (λ (w : Cover). total_of size cs + whole w) set_here

    -- what holds of c, and of the others as they were
    set-each : (P : ℕ → Cover → Type 0) → P p c → ((q : ℕ) → (q ≡ p → ⊥) → q < size → P q (cover_of cs q))
        → (q : ℕ) → q < size → P q (cover_of (set cs p c) q)
    set-each P this all q l =
        ⊎_elim
        (λ (i : q ≡ p). rw (i, set_here) this)
        (λ (n : q ≡ p → ⊥). rw (set_there q n) (all q n l))
        (same_or_not q p)

  module _ (m : Transfer) (h : m.who < size) where
    abbrev after : Cover
    after = moved m.how m.amount (cover_of cs m.who)

    pub transfer-total : Enough m.how m.amount (cover_of cs m.who)
        → total_of size (transferred m cs) + loss m.how m.amount (cover_of cs m.who) ≡ total_of size cs + gain m.how m.amount
    transfer-total enough =
        let e = set-total m.who h after in
        let w = whole-moved m.how m.amount (cover_of cs m.who) enough in
        omega arith

    -- each participant's whole
    pub transfer-whole : Enough m.how m.amount (cover_of cs m.who) → (p : ℕ)
        → whole (cover_of (transferred m cs) p) + only_for m.who p (loss m.how m.amount (cover_of cs m.who))
        ≡ whole (cover_of cs p) + only_for m.who p (gain m.how m.amount)
    transfer-whole enough p =
        ⊎_elim
        (λ (i : p ≡ m.who).
        let a = for-who m.who p (loss m.how m.amount (cover_of cs m.who)) i in
        let b = for-who m.who p (gain m.how m.amount) i in
        let d : whole (cover_of (transferred m cs) p) ≡ whole after = rw i (ap whole (set_here m.who h after)) in
        let f : whole (cover_of cs p) ≡ whole (cover_of cs m.who) = rw i refl in
        let w = whole-moved m.how m.amount (cover_of cs m.who) enough in
        omega arith)
        (λ (n : p ≡ m.who → ⊥).
        let a = for-others m.who p (loss m.how m.amount (cover_of cs m.who)) n in
        let b = for-others m.who p (gain m.how m.amount) n in
        let d = ap whole (set_there m.who h after p n) in
        omega arith)
        (same_or_not p m.who)

    -- what the move leaves of a cover, it leaves of all
    pub transfer-leaves : (f : Cover → ℕ) → f (moved m.how m.amount (cover_of cs m.who)) ≡ f (cover_of cs m.who)
        → (p : ℕ) → f (cover_of (transferred m cs) p) ≡ f (cover_of cs p)
    transfer-leaves f e p =
        ⊎_elim
        (λ (i : p ≡ m.who). rw i (ap f (set_here m.who h after) ∙ e))
        (λ (n : p ≡ m.who → ⊥). ap f (set_there m.who h after p n))
        (same_or_not p m.who)

pub transfer-fitted : {size : ℕ} {cs : List Cover} → Fitted size cs → (m : Transfer) → Fitted size (transferred m cs)
transfer-fitted {cs = cs} fit m =
    record { few = fit.few; long = length-set cs m.who (moved m.how m.amount (cover_of cs m.who)) ∙ fit.long }

pub fitted : {size : ℕ} {due : ℕ → ℕ} {cs : List Cover} → size ≤ most_participants → CoversSound size due cs → Fitted size cs
fitted few s = record { few = few; long = s.long }

module _ {size : ℕ} {due : ℕ → ℕ} {cs : List Cover} (few : size ≤ most_participants) (s : CoversSound size due cs) where
  pub set_keeps : (p : ℕ) → p < size → (c : Cover) (due' : ℕ → ℕ) → c.reserved ≡ due' p
      → ((q : ℕ) → (q ≡ p → ⊥) → due q ≡ due' q) → Either c
      → CoversSound size due' (set cs p c)
  set_keeps p h c due' r others e =
      record {
        long = length-set cs p c ∙ s.long;
        reserved = set-each (fitted few s) p h c (λ q (w : Cover). w.reserved ≡ due' q) r (λ q n l. s.reserved q l ∙ others q n);
        either = set-each (fitted few s) p h c (λ q (w : Cover). Either w) e (λ q n l. s.either q l);
        outside = λ q l k. set_there (fitted few s) p h c q (λ i. omega arith) ∙ s.outside q l k;
      }

  -- what is due, but for what the move binds and frees
  pub transfer-keeps : (m : Transfer) → m.who < size → Enough m.how m.amount (cover_of cs m.who) → (due' : ℕ → ℕ)
      → ((p : ℕ) → due' p + only_for m.who p (unbound m.how m.amount) ≡ due p + only_for m.who p (bound m.how m.amount))
      → CoversSound size due' (transferred m cs)
  transfer-keeps m h enough due' e =
      let c = cover_of cs m.who in
      set_keeps m.who h (moved m.how m.amount c) due'
      (let r = reserved-moved m.how m.amount c enough in
      let d = s.reserved m.who h in
      let f = e m.who in
      let u = for-who m.who m.who (unbound m.how m.amount) refl in
      let b = for-who m.who m.who (bound m.how m.amount) refl in
      omega arith)
      (λ q n.
      let f = e q in
      let u = for-others m.who q (unbound m.how m.amount) n in
      let b = for-others m.who q (bound m.how m.amount) n in
      omega arith)
      (either-moved m.how m.amount c (s.either m.who h))
