-- Text in a buffer that is lent for it.
--     lent    the buffer with the text from its start on, as far as it reaches; its bytes behind the text stay
-- Assumes nothing.
use Rattle.std.specs.Prelude.{ℕ, List, [], ◌∷◌}

abbrev pub lent : List ℕ → List ℕ → List ℕ
lent [] buffer = buffer
lent (x ∷ text) [] = []
lent (x ∷ text) (y ∷ buffer) = x ∷ lent text buffer
