-- Where money lies: 66 places, an account and a sub-account of each of 32 numbers and of the house.
--     place_of      the number of a place of participant p; the house's are nobody's
--     places       how many there are
--     house_number  the house's number among the balances, behind those of the participants
-- Assumes nothing.
use Rattle.std.specs.Prelude.{ℕ, ◌+◌}
use Rattle.desk.specs.declared.Place.{Place}
use Rattle.desk.specs.declared.Place.TheVariants.{Account, SubAccount, House, HouseSubAccount}

-- 02, slip 7: account k, sub-account 32 + k, the house 64 and 65
abbrev pub place_of : Place → ℕ → ℕ
place_of Account p = p
place_of SubAccount p = 32 + p
place_of House p = 64
place_of HouseSubAccount p = 65

abbrev pub places : ℕ
places = 66

-- 02, slip 7: 33, the house last
abbrev pub house_number : ℕ
house_number = 32
