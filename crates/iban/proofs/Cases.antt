-- Worked cases of an IBAN, as rows: the two that 01 marks, the one that 02 adds, and the edges of the definition; and of its groups of
-- digits: how many, which, and what they leave. Assumes nothing.
use mathlib.Core.Path.{refl}
use mathlib.Core.List.{List, [], ◌∷◌, ◌++◌, map}
use Prim.Native.Nat.{ℕ, ◌+◌}
use Prim.Native.Char.{code}
use Prim.Native.String.{String}
use lib.ListN.{length, replicate}
use Rattle.fields.specs.Text.{text}
use Rattle.fields.proofs.CaseRows.{Row, AllMet, all-met}
use Rattle.classes.proofs.Checked.{taken_row, turned_row}
use Rattle.iban.specs.Iban.{digits, rearranged, is_iban}
use Rattle.iban.specs.Groups.{group_count, groups_of, over_groups, iban_groups}

-- 01 'At the edges': IBAN above valid*, with LV81 no IBAN*. 02, slip 1: that IBAN's BANK in small letters
abbrev pub marked_ibans : List Row
marked_ibans =
    taken_row "01's IBAN" is_iban (text "LV80BANK0000435195001")
    ∷ turned_row "its check digits one higher" is_iban (text "LV81BANK0000435195001")
    ∷ turned_row "its BANK in small letters" is_iban (text "LV80bank0000435195001")
    ∷ []

abbrev pub ibans : List Row
ibans =
    turned_row "four characters that leave 1" is_iban (text "LV10")
    ∷ taken_row "five characters" is_iban (text "LV31A")
    ∷ taken_row "34 characters" is_iban (text "LV70BANK01234567890123456789ABCDEF")
    ∷ turned_row "35 characters that leave 1" is_iban (text "LV49BANK01234567890123456789ABCDEFG")
    ∷ turned_row "a digit in the country, and 1 is left" is_iban (text "L833BANK0000435195001")
    ∷ turned_row "a small letter in the country" is_iban (text "Lv80BANK0000435195001")
    ∷ turned_row "a small letter in the check digits" is_iban (text "LV8aBANK0000435195001")
    ∷ turned_row "a small letter behind the check digits" is_iban (text "LV80bANK0000435195001")
    ∷ taken_row "a capital at the end" is_iban (text "LV31BANK000043519500A")
    ∷ turned_row "a small letter at the end" is_iban (text "LV31BANK000043519500a")
    ∷ turned_row "a small letter, and 1 is left if it counts 0" is_iban (text "LV85bANK0000435195001")
    ∷ taken_row "digits alone behind the country" is_iban (text "DE89370400440532013000")
    ∷ turned_row "a space in the rest" is_iban (text "LV80 BANK0000435195001")
    ∷ turned_row "a sign in the rest" is_iban (text "LV94BANK0000435195-01")
    ∷ turned_row "a zero byte at the end" is_iban (text "LV80BANK0000435195001\0")
    ∷ turned_row "nothing" is_iban []
    ∷ []

-- n digits: how many groups, and the digits of each
abbrev pub cut_row : String → ℕ → List ℕ → Row
cut_row name n due = record { shows = name; rule = λ ds. group_count ds ∷ map length (groups_of ds); given = replicate n 9; due = due }

abbrev pub cuts : List Row
cuts =
    cut_row "no digit, no group" 0 (0 ∷ [])
    ∷ cut_row "one digit in one" 1 (1 ∷ 1 ∷ [])
    ∷ cut_row "seven digits in one" 7 (1 ∷ 7 ∷ [])
    ∷ cut_row "eight in two" 8 (2 ∷ 7 ∷ 1 ∷ [])
    ∷ cut_row "14 in two" 14 (2 ∷ 7 ∷ 7 ∷ [])
    ∷ cut_row "15 in three" 15 (3 ∷ 7 ∷ 7 ∷ 1 ∷ [])
    ∷ cut_row "63 in nine" 63 (9 ∷ replicate 9 7)
    ∷ cut_row "66 in ten" 66 (10 ∷ replicate 9 7 ++ (3 ∷ []))
    ∷ []

abbrev pub count_row : String → List ℕ → ℕ → Row
count_row name s due = record { shows = name; rule = λ t. iban_groups t ∷ []; given = s; due = due ∷ [] }

abbrev pub counts : List Row
counts =
    count_row "01's IBAN, 27 digits" (text "LV80BANK0000435195001") 4
    ∷ count_row "its check digits one higher" (text "LV81BANK0000435195001") 4
    ∷ count_row "its BANK in small letters" (text "LV80bank0000435195001") 0
    ∷ count_row "four characters" (text "LV10") 0
    ∷ count_row "five characters, seven digits" (text "LV801") 1
    ∷ count_row "five characters, eight digits" (text "LV31A") 2
    ∷ count_row "14 digits" (text "LV2612345678") 2
    ∷ count_row "15 digits" (text "LV24123456789") 3
    ∷ count_row "14 digits, with a letter's two in two groups" (text "LV19123456A") 2
    ∷ count_row "21 digits" (text "LV74123456789012345") 3
    ∷ count_row "22 digits" (text "LV031234567890123456") 4
    ∷ count_row "34 characters, 36 digits" (text "LV61123456789012345678901234567890") 6
    ∷ count_row "34 characters, 66 digits" (text "LV03ZZZZZZZZZZZZZZZZZZZZZZZZZZZZZZ") 10
    ∷ count_row "35 characters" (text "LV49BANK01234567890123456789ABCDEFG") 0
    ∷ count_row "a zero byte at the end" (text "LV80BANK0000435195001\0") 0
    ∷ count_row "nothing" [] 0
    ∷ []

-- groups as text, with a space behind each
abbrev pub shown : List (List ℕ) → List ℕ
shown [] = []
shown (g ∷ gs) = map (λ d. code "0" + d) g ++ (code " " ∷ shown gs)

abbrev pub groups_row : String → List ℕ → List ℕ → Row
groups_row name s due = record { shows = name; rule = λ t. shown (groups_of (digits (rearranged t))); given = s; due = due }

abbrev pub groups : List Row
groups =
    groups_row "01's IBAN, with K's two digits in two groups" (text "LV80BANK0000435195001") (text "1110232 0000043 5195001 213180 ")
    ∷ groups_row "two of seven, with A's two digits in both" (text "LV19123456A") (text "1234561 0213119 ")
    ∷ groups_row "a last digit alone" (text "LV31A") (text "1021313 1 ")
    ∷ []

abbrev pub left_row : String → List ℕ → ℕ → Row
left_row name s due = record { shows = name; rule = λ t. over_groups (digits (rearranged t)) ∷ []; given = s; due = due ∷ [] }

abbrev pub remainders : List Row
remainders =
    left_row "01's IBAN leaves 1" (text "LV80BANK0000435195001") 1
    ∷ left_row "its check digits one higher leave 2" (text "LV81BANK0000435195001") 2
    ∷ left_row "seven digits" (text "LV801") 1
    ∷ left_row "eight digits" (text "LV47D") 1
    ∷ left_row "14 digits, with a letter's two in two groups" (text "LV19123456A") 1
    ∷ left_row "66 digits" (text "LV03ZZZZZZZZZZZZZZZZZZZZZZZZZZZZZZ") 1
    ∷ []

abbrev pub cases : List Row
cases = marked_ibans ++ ibans ++ cuts ++ counts ++ groups ++ remainders

pub cases-met : AllMet cases
unfolding is_iban
cases-met = all-met cases refl
