-- Bytes as numbers. Assumes nothing.
use Rattle.std.specs.Prelude.{List, [], ◌∷◌, ℕ, zero, suc, take, drop}
use Rattle.bits.specs.Bits.{value, bits}

-- the first n numbers of eight bytes each, most significant first
unfoldable pub numbers_of : ℕ → List ℕ → List ℕ
numbers_of zero s = []
numbers_of (suc n) s = value (bits (take 8 s)) ∷ numbers_of n (drop 8 s)
