-- Numbers, bits and bytes. A run of bits has its most significant bit first.
-- Assumes nothing.
use Rattle.std.specs.Prelude.{Bool, true, false, List, [], ◌∷◌, ◌++◌, ℕ, zero, suc, ◌+◌, ◌*◌, ◌/◌, ◌%◌, ◌^◌, ◌<◌, eqb, length, take, drop, get_or}

-- 1 for a set bit, 0 for a clear one
unfoldable pub digit : Bool → ℕ
digit true = 1
digit false = 0

-- the lowest bit of n
unfoldable pub odd : ℕ → Bool
odd n = eqb (n % 2) 1

-- the number that a run of bits stands for
unfoldable pub value : List Bool → ℕ
value [] = 0
value (b ∷ bs) = digit b * 2 ^ length bs + value bs

-- the w low bits of v
unfoldable pub bits_of : ℕ → ℕ → List Bool
bits_of zero v = []
bits_of (suc w) v = odd (v / 2 ^ w) ∷ bits_of w v

-- the bits of a row of bytes: bit k of the row is the element k
unfoldable pub bits : List ℕ → List Bool
bits [] = []
bits (b ∷ bs) = bits_of 8 b ++ bits bs

-- the first n bytes of a row of bits
unfoldable pub bytes : ℕ → List Bool → List ℕ
bytes zero bs = []
bytes (suc n) bs = value (take 8 bs) ∷ bytes n (drop 8 bs)

-- each element is a byte
abbrev pub Bytes : List ℕ → Type 0
Bytes s = (i : ℕ) → get_or s i 0 < 256
