-- The majorities of a word's places, 64 at a time, in machine words. Only the crates of the repair speak of them; what the box promises (Repair, Promises of
-- dsc) does not.
-- Assumes nothing.
use Rattle.std.specs.Prelude.{◌≡◌, Bool, List, [], ◌∷◌, ℕ, ◌+◌, ◌<◌, leb, length}
use Rattle.lanes.specs.Lane.{lane, bit_at}
use Rattle.dsc.specs.Code.{count, dist}
use Rattle.dsc.specs.CheckTable.{differences, coefficient, failures}
use Rattle.dsc.specs.Majority.{flipped}
use Rattle.dsc_sums.specs.Sums.{AllSums}

-- z is bits 47 to 110 of the words x and y
pub record Wrapped (x y z : ℕ) : Type 0 where
  pub each : (i : ℕ) → i < 64 → lane z i ≡ bit_at (x ∷ y ∷ []) (i + 47)

-- the bits of a row of machine words, moved on by i
abbrev pub moved_on : List ℕ → ℕ → ℕ → Bool
moved_on ws i p = bit_at ws (i + p)

-- lane i of x says that nine or more of the bits at the differences, moved on by i, are set
pub record MovedMajority (ws : List ℕ) (x : ℕ) : Type 0 where
  pub each : (i : ℕ) → i < 64 → lane x i ≡ leb 9 (count (moved_on ws i) differences)

-- the word `errors` has 1 at each place, and only there, of which nine or more rows fail in the word that has these sums
pub record ErrorsOf (a b c d e : ℕ) (errors : List Bool) : Type 0 where
  pub each : (w : List Bool) → AllSums w a b c d e → (p : ℕ) → p < 187 → coefficient errors p ≡ leb 9 (failures w p)

-- more than eight places are flipped in every word that has these sums
pub record ManyErrors (a b c d e : ℕ) : Type 0 where
  pub each : (w : List Bool) → length w ≡ 187 → AllSums w a b c d e → 8 < dist w (flipped w w)
