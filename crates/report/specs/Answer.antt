-- What a ticket is answered as 4 bytes, and answers in a buffer.
--     answer_length        its length
--     answer_bytes         an answer as bytes
--     answer_at            the answer number k of a buffer
--     answers_bytes        answers one after the other
--     answers_laid         a buffer after answers are laid down from its start
--     FittingAnswer       an answer's fields are numbers of their widths; AllFittingAnswers: those of each answer
-- Assumes nothing.
use Rattle.std.specs.Prelude.{ℕ, ◌+◌, ◌*◌, ◌^◌, ◌<◌, List, [], ◌∷◌, ◌++◌, map, length, get_or, drop}
use Rattle.fields.specs.Number.{number_at, bytes_of}
use Rattle.fields.specs.Text.{joined}
use Rattle.report.specs.declared.answer.Answer.{Answer}

abbrev pub answer_length : ℕ
answer_length = 4

-- refusal (1), how many reports (2), rows followed (1)
abbrev pub answer_bytes : Answer → List ℕ
answer_bytes a = a.refusal ∷ bytes_of 2 a.reports ++ (a.rows ∷ [])

abbrev pub answer_at : List ℕ → ℕ → Answer
answer_at s k =
    record {
      refusal = get_or s (answer_length * k) 0;
      reports = number_at 2 (answer_length * k + 1) s;
      rows = get_or s (answer_length * k + 3) 0;
    }

abbrev pub answers_bytes : List Answer → List ℕ
answers_bytes ans = joined (map answer_bytes ans)

-- bytes after the last answer keep their value
abbrev pub answers_laid : List Answer → List ℕ → List ℕ
answers_laid ans s = answers_bytes ans ++ drop (answer_length * length ans) s

pub record FittingAnswer (a : Answer) : Type 0 where
  pub refusal : a.refusal < 256
  pub reports : a.reports < 256 ^ 2
  pub rows : a.rows < 256

abbrev pub AllFittingAnswers : List Answer → Type 0
AllFittingAnswers [] = Unit {0}
AllFittingAnswers (a ∷ ans) = FittingAnswer a × AllFittingAnswers ans
