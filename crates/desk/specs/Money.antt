-- What becomes of the money: 02, slip 7, its sentences about accounts, over a list of transfers.
--     opening       what lies in each of the 66 places before: the balances, and nothing in a sub-account
--     arriving      what a transfer brings to a place; leaving: what it takes from it
--     after_one      what lies in each place after a transfer; after: after a list of them
--     Covered       each amount is there when it is moved
--     MoneyMoved    all that is promised of the transfers
-- Assumes nothing.
use Rattle.std.specs.Prelude.{ℕ, ◌+◌, ◌-◌, ◌≤◌, ◌<◌, ◌≡◌, cond, List, [], ◌∷◌, ltb, eqb}
use Rattle.fields.specs.UpTo.{sum_to}
use Rattle.dayfile.specs.FileLimits.{most_participants}
use Rattle.desk.specs.Places.{place_of, places, house_number}
use Rattle.desk.specs.Settlement.{DeskInput, size, balance_of, drawn_from, credit_to, credits}
use Rattle.desk.specs.declared.Place.TheVariants.{Account, SubAccount, House, HouseSubAccount}
use Rattle.desk.specs.declared.Transfer.{Transfer}

abbrev pub opening : DeskInput → ℕ → ℕ
opening x k = cond (ltb k most_participants) (balance_of x k) (cond (eqb k (place_of House 0)) (balance_of x house_number) 0)

abbrev pub arriving : Transfer → ℕ → ℕ
arriving t k = cond (eqb t.to k) t.amount 0

abbrev pub leaving : Transfer → ℕ → ℕ
leaving t k = cond (eqb t.from k) t.amount 0

abbrev pub after_one : Transfer → (ℕ → ℕ) → ℕ → ℕ
after_one t lies k = lies k + arriving t k - leaving t k

abbrev pub after : List Transfer → (ℕ → ℕ) → ℕ → ℕ
after [] lies = lies
after (t ∷ ts) lies = after ts (after_one t lies)

abbrev pub Covered : List Transfer → (ℕ → ℕ) → Type 0
Covered [] lies = Unit {0}
Covered (t ∷ ts) lies = (t.amount ≤ lies t.from) × Covered ts (after_one t lies)

pub record MoneyMoved (x : DeskInput) (ts : List Transfer) : Type 0 where
  pub covered : Covered ts (opening x)
  -- money over all accounts and sub-accounts is equal before and after
  pub same : sum_to (after ts (opening x)) places ≡ sum_to (opening x) places
  -- all sub-accounts start and end at zero
  pub starts : (p : ℕ) → p < most_participants → opening x (place_of SubAccount p) ≡ 0
  pub house_starts : opening x (place_of HouseSubAccount 0) ≡ 0
  pub ends : (p : ℕ) → p < most_participants → after ts (opening x) (place_of SubAccount p) ≡ 0
  pub house_ends : after ts (opening x) (place_of HouseSubAccount 0) ≡ 0
  -- each member ends with its balance less what was drawn plus its credit, in full whichever debits fall short; nobody else's moves
  pub member : (p : ℕ) → p < size x
      → after ts (opening x) (place_of Account p) + drawn_from x p ≡ balance_of x p + credit_to x p
  pub others : (p : ℕ) → size x ≤ p → p < most_participants → after ts (opening x) (place_of Account p) ≡ balance_of x p
  -- the house has put in all credits, and has what was drawn
  pub house : after ts (opening x) (place_of House 0) + credits x ≡ balance_of x house_number + sum_to (drawn_from x) (size x)
