-- The kinds of ticket, by the kind and flag bytes: 01 'The ticket, 108 bytes'. A yes and a no are kinds of their own.
--     kind_row              the table: of each kind its number, the lowest flag and the highest
--     kind_number           the number
--     flag_low, flag_high    the flags
--     all_kinds             all kinds
--     is_of                 whether a kind byte and a flag byte are those of a kind
--     kind_among            the first of some kinds that they are of
--     kinded               the one of all kinds that they are of; None where kind or flag is wrong
-- Assumes nothing.
use Rattle.std.specs.Prelude.{ℕ, Bool, ◌&&◌, cond, List, [], ◌∷◌, leb, eqb, None, Option, Some}
use Rattle.ticket.specs.declared.kinds.Kind.{Kind}
use Rattle.ticket.specs.declared.kinds.Kind.TheVariants.{
  CoverIn,
  CoverOut,
  Order,
  Yes,
  No,
  Recall,
  Return,
  Decline,
  Inquiry,
  Cut,
  Confirm,
  Tick,
}

pub record KindRow : Type 0 where
  pub number : ℕ
  pub low : ℕ
  pub high : ℕ

-- a kind without a flag, and one with flags from low to high
abbrev plain : ℕ → KindRow
plain n = record { number = n; low = 0; high = 0 }

abbrev flags : ℕ → ℕ → ℕ → KindRow
flags n low high = record { number = n; low = low; high = high }

abbrev pub kind_row : Kind → KindRow
kind_row CoverIn = plain 1
kind_row CoverOut = plain 2
kind_row Order = plain 3
kind_row Yes = flags 4 1 1
kind_row No = flags 4 2 2
kind_row Recall = flags 5 1 4
kind_row Return = plain 6
kind_row Decline = flags 7 1 7
kind_row Inquiry = plain 8
kind_row Cut = plain 9
kind_row Confirm = plain 10
kind_row Tick = plain 11

abbrev pub kind_number : Kind → ℕ
kind_number k = (kind_row k).number

abbrev pub flag_low : Kind → ℕ
flag_low k = (kind_row k).low

abbrev pub flag_high : Kind → ℕ
flag_high k = (kind_row k).high

abbrev pub all_kinds : List Kind
all_kinds = CoverIn ∷ CoverOut ∷ Order ∷ Yes ∷ No ∷ Recall ∷ Return ∷ Decline ∷ Inquiry ∷ Cut ∷ Confirm ∷ Tick ∷ []

abbrev pub is_of : Kind → ℕ → ℕ → Bool
is_of k kind flag = eqb kind (kind_number k) && (leb (flag_low k) flag && leb flag (flag_high k))

abbrev pub kind_among : List Kind → ℕ → ℕ → Option Kind
kind_among [] kind flag = None
kind_among (k ∷ ks) kind flag = cond (is_of k kind flag) (Some k) (kind_among ks kind flag)

abbrev pub kinded : ℕ → ℕ → Option Kind
kinded kind flag = kind_among all_kinds kind flag
