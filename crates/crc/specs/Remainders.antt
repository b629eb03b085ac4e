-- What the entries of a table are, by which whole bytes are divided at once.
-- Assumes nothing.
use Rattle.std.specs.Prelude.{Bool, List, ◌++◌, ℕ, ◌*◌}
use Rattle.gf2.specs.Polynomial.{zeros, check_bits}
use Rattle.bits.specs.Bits.{value, bits_of}

-- what remains of b x^(w + 8 n) by x^w + g: of the byte b, n bytes of zeros and the w bits of the register after it
unfoldable pub remainder_of : List Bool → ℕ → ℕ → ℕ
remainder_of g n b = value (check_bits g (bits_of 8 b ++ zeros (8 * n)))
