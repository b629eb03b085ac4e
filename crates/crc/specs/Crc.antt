-- The two cyclic redundancy checks (document 01, "The frame, bit by bit" and "The cable header"). Nothing is reflected or inverted.
-- Assumes nothing.
use Rattle.std.specs.Prelude.{Bool, List, [], ◌∷◌, ◌++◌, ℕ, length}
use Rattle.gf2.specs.Polynomial.{zeros, poly, add, remainder}
use Rattle.bits.specs.Bits.{value, bits_of}

-- the message m times x^n, with `start` added to its first n coefficients: what remains of it by x^n + g.
-- A register of n bits that starts at `start` and takes in m comes to it (`crc-feed` of proofs/Crc).
unfoldable pub crc : List Bool → List Bool → List Bool → List Bool
crc g start m = remainder g (length m) (add start (m ++ zeros (length g)))

-- x^9 + x^5 + x^4 + x + 1, below x^10
abbrev pub g10 : List Bool
g10 = poly 10 (9 ∷ 5 ∷ 4 ∷ 1 ∷ 0 ∷ [])

-- 0x04C11DB7, below x^32
abbrev pub g32 : List Bool
g32 = bits_of 32 0x04C11DB7

-- the register's start
abbrev pub ones32 : List Bool
ones32 = bits_of 32 0xFFFFFFFF

unfoldable pub crc10 : List Bool → List Bool
crc10 m = crc g10 (zeros 10) m

unfoldable pub crc32 : List Bool → List Bool
crc32 m = crc g32 ones32 m

-- the same as numbers
abbrev pub crc10_of : List Bool → ℕ
crc10_of m = value (crc10 m)

abbrev pub crc32_of : List Bool → ℕ
crc32_of m = value (crc32 m)
