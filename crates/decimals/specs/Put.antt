-- Storing a text in a buffer. Assumes nothing.
use Rattle.std.specs.Prelude.{◌≡◌, List, ℕ, ◌+◌, length}
use Rattle.std.proofs.lemmas.List.Edits.{sets}

-- the buffer held l; then m, which is l with the text s from place i on, and j is the place after it
pub record Put (l : List ℕ) (i : ℕ) (s m : List ℕ) (j : ℕ) : Type 0 where
  pub place : j ≡ i + length s
  pub text : m ≡ sets l i s
