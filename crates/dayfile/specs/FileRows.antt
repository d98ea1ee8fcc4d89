-- A participant row of 24 bytes and a route row of 16, at a place of the file.
--     participant_ok   all that refusal 4 asks of a row but the earlier rows' BICs
--     bound_of         what a route row's k has to be below
--     route_ok         all that refusal 5 asks of a row but the earlier rows' BICs
--     bic_among        one of the first n rows of a section has the BIC
-- Assumes nothing.
use Rattle.std.specs.Prelude.{ℕ, ◌+◌, ◌*◌, Bool, ◌&&◌, ◌||◌, cond, List, leb, ltb, eqb, get_or}
use Rattle.codes.specs.Bic.{is_bic}
use Rattle.fields.specs.Number.{part, number_at}
use Rattle.fields.specs.Text.{blank, same}
use Rattle.fields.specs.UpTo.{any_to}
use Rattle.dayfile.specs.FileLimits.{most_opening}

-- BIC, kind, opening (8), wish 0 or 1, three zero. Kind and wish at most 1, opening at most 10^15 and zero without the wish
abbrev pub participant_ok : ℕ → List ℕ → Bool
participant_ok at f =
    is_bic (part 11 at f)
    && leb (get_or f (at + 11) 0) 1
    && leb (get_or f (at + 20) 0) 1
    && leb (number_at 8 (at + 12) f) most_opening
    && (eqb (get_or f (at + 20) 0) 1 || eqb (number_at 8 (at + 12) f) 0)
    && blank (part 3 (at + 21) f)

-- a row's k is below the participant count, or with kind 1 below the row's own number
abbrev pub bound_of : ℕ → ℕ → ℕ → ℕ
bound_of kind size own = cond (eqb kind 1) own size

-- BIC, kind (0 participant, 1 row), k (2), two zero
abbrev pub route_ok : ℕ → ℕ → ℕ → List ℕ → Bool
route_ok size own at f =
    is_bic (part 11 at f)
    && leb (get_or f (at + 11) 0) 1
    && ltb (number_at 2 (at + 12) f) (bound_of (get_or f (at + 11) 0) size own)
    && blank (part 2 (at + 14) f)

abbrev pub bic_among : ℕ → ℕ → ℕ → List ℕ → List ℕ → Bool
bic_among start width n bic f = any_to (λ j. same (part 11 (start + width * j) f) bic) n
