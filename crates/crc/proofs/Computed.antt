-- Computed: the CRC-32 of the nine digits "123456789", the check value by which catalogues of CRCs tell this one (CRC-32/MPEG-2) from others. It pins the
-- polynomial and the register's start. Assumes nothing.
use mathlib.Core.Path.{◌≡◌, refl}
use mathlib.Core.List.{[], ◌∷◌}
use Rattle.gf2.specs.Polynomial.{add, scale, remainder}
use Rattle.bits.specs.Bits.{digit, odd, value, bits_of, bits}
use Rattle.crc.specs.Crc.{crc, crc32, crc32_of}

pub check-value : crc32_of (bits (49 ∷ 50 ∷ 51 ∷ 52 ∷ 53 ∷ 54 ∷ 55 ∷ 56 ∷ 57 ∷ [])) ≡ 0x0376E6E7
unfolding add scale remainder digit odd value bits_of bits crc crc32
check-value = refl
