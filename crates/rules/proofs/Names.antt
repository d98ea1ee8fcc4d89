-- What the cases are written with: their codes, the day file of two banks, and a day as a row. Assumes nothing.
use Prim.Native.Nat.{ℕ}
use Prim.Native.String.{String}
use mathlib.Core.List.{List, [], ◌∷◌}
use Rattle.fields.specs.Text.{text}
use Rattle.fields.proofs.CaseRows.{Row}
use Rattle.dayfile.specs.FileWriting.{file_bytes, bank, direct}
use Rattle.rules.specs.Program.{output}

abbrev pub bic_a : List ℕ
bic_a = text "AAAALV22XXX"

abbrev pub bic_b : List ℕ
bic_b = text "BBBBLV22XXX"

abbrev pub bic_c : List ℕ
bic_c = text "CCCCLV22XXX"

abbrev pub bic_d : List ℕ
bic_d = text "DDDDLV22XXX"

abbrev pub bic_e : List ℕ
bic_e = text "EEEELV22XXX"

-- a linked system's
abbrev pub bic_l : List ℕ
bic_l = text "LLLLLV22XXX"

-- nobody's
abbrev pub bic_z : List ℕ
bic_z = text "ZZZZLV22XXX"

abbrev pub tx1 : List ℕ
tx1 = text "TX1"

abbrev pub tx2 : List ℕ
tx2 = text "TX2"

abbrev pub tx3 : List ℕ
tx3 = text "TX3"

abbrev pub tx4 : List ℕ
tx4 = text "TX4"

abbrev pub tx5 : List ℕ
tx5 = text "TX5"

abbrev pub tx6 : List ℕ
tx6 = text "TX6"

abbrev pub tx7 : List ℕ
tx7 = text "TX7"

abbrev pub tx8 : List ℕ
tx8 = text "TX8"

-- case D's
abbrev pub iban_d : List ℕ
iban_d = text "LV80BANK0000435195001"

-- and with its BANK in small letters
abbrev pub small_iban_d : List ℕ
small_iban_d = text "LV80bank0000435195001"

-- two banks with no opening cover, a direct route each: cases D and E and most others
abbrev pub two_banks : List (List ℕ) → List ℕ
two_banks tickets = file_bytes (bank bic_a ∷ bank bic_b ∷ []) (direct bic_a 0 ∷ direct bic_b 1 ∷ []) tickets

-- a day's file, and the program's lines for it: their bytes
abbrev pub day_of : String → List ℕ → List ℕ → Row
day_of name given due = record { shows = name; rule = output; given = given; due = due }

-- or one text
abbrev pub day : String → List ℕ → String → Row
day name given due = day_of name given (text due)
