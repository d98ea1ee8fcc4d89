-- Case D of 01 from the bytes of its answers, reports and covers; a refused day file; the least number and the greatest. Assumes nothing.
use mathlib.Core.Path.{refl}
use mathlib.Core.List.{List, [], ◌∷◌, ◌++◌}
use Prim.Native.Nat.{ℕ}
use Rattle.fields.specs.Text.{text}
use Rattle.fields.proofs.CaseRows.{Row, AllMet, all-met}
use Rattle.rules.specs.declared.Cover.{Cover}
use Rattle.rules.specs.Program.{decimal, numbers, refusal_line}
use Rattle.lines.specs.Lines.{lines_to, covers_to}

-- of 400, about order 0
abbrev told : ℕ → ℕ → List ℕ
told to code = to ∷ code ∷ 0 ∷ 0 ∷ 0 ∷ 0 ∷ 0 ∷ 0 ∷ 0 ∷ 0 ∷ 1 ∷ 144 ∷ []

abbrev has : ℕ → Cover
has n = record { available = n; reserved = 0; held = 0; debit = 0 }

abbrev pub cases : List Row
cases =
    record {
      shows = "D: tickets";
      rule = λ answers. lines_to 0 4 answers (told 1 1 ++ told 0 2 ++ told 1 2 ++ told 0 2);
      given = 0 ∷ 0 ∷ 0 ∷ 0 ∷ 0 ∷ 0 ∷ 1 ∷ 1 ∷ 0 ∷ 0 ∷ 2 ∷ 0 ∷ 0 ∷ 0 ∷ 1 ∷ 0 ∷ [];
      due = text "T 0 0 0 0\nT 1 0 1 1\nR 1 1 0 400\nT 2 0 2 0\nR 0 2 0 400\nR 1 2 0 400\nT 3 0 1 0\nR 0 2 0 400\n";
    }
    ∷ record {
      shows = "E: two of its tickets, refusal and reports, numbered from 2 on";
      rule = λ answers. lines_to 2 2 answers (told 0 4 ++ told 1 4 ++ told 0 4);
      given = 18 ∷ 0 ∷ 2 ∷ 0 ∷ 0 ∷ 0 ∷ 1 ∷ 0 ∷ [];
      due = text "T 2 18 2 0\nR 0 4 0 400\nR 1 4 0 400\nT 3 0 1 0\nR 0 4 0 400\n";
    }
    ∷ record {
      shows = "D: covers";
      rule = λ _. covers_to (has 600 ∷ has 400 ∷ has 7 ∷ []) 2;
      given = [];
      due = text "C 0 600 0 0\nC 1 400 0 0\n";
    }
    ∷ record { shows = "refused"; rule = λ _. refusal_line 5; given = []; due = text "F 5\n" }
    ∷ record { shows = "zero"; rule = λ _. decimal 0; given = []; due = text "0" }
    ∷ record { shows = "the greatest"; rule = λ _. decimal 18446744073709551615; given = []; due = text "18446744073709551615" }
    ∷ []

pub cases-met : AllMet cases
unfolding decimal numbers
cases-met = all-met cases refl
