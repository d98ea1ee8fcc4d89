-- What a function that writes text at a place leaves.
--     Written    the text s became t: bytes stand from a place on, all else is as it was, and r is where they end
-- Assumes nothing.
use Rattle.std.specs.Prelude.{ℕ, ◌+◌, ◌≡◌, List, length}
use Rattle.std.proofs.lemmas.List.Edits.{sets}

pub record Written (s t : List ℕ) (at : ℕ) (bytes : List ℕ) (r : ℕ) : Type 0 where
  pub text : t ≡ sets s at bytes
  pub end : r ≡ at + length bytes
