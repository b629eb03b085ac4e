-- The bits of a machine word as lanes, and those of a row of words. Assumes nothing.
use Rattle.std.specs.Prelude.{Bool, List, [], ◌∷◌, ℕ, ◌+◌, ◌/◌, ◌%◌, ◌^◌, get_or}
use Rattle.bits.specs.Bits.{digit, odd}

-- bit i of x, the lowest first
unfoldable pub lane : ℕ → ℕ → Bool
lane x i = odd (x / 2 ^ i)

-- bit n of a row of words of 64 bits, the lowest word first
abbrev pub bit_at : List ℕ → ℕ → Bool
bit_at ws n = lane (get_or ws (n / 64) 0) (n % 64)

-- in how many words lane i is set
abbrev pub set_in : ℕ → List ℕ → ℕ
set_in i [] = 0
set_in i (x ∷ xs) = digit (lane x i) + set_in i xs
