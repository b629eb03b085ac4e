-- Worked examples 6 and 7 of document 01.
-- Assumes nothing.
use Rattle.std.specs.Prelude.{◌≡◌, Bool, List, [], ◌∷◌, ℕ, zero, suc}
use Rattle.gf2.specs.Polynomial.{member}
use Rattle.bits.specs.Bits.{bits_of}
use Rattle.crc.specs.Crc.{crc10}

-- n bits from Bk on, of which just those of the list are set
unfoldable pub only_set : ℕ → ℕ → List ℕ → List Bool
only_set zero k set = []
only_set (suc n) k set = member k set ∷ only_set n (suc k) set

-- the 91 bits that a frame's CRC is taken of, B21 to B111
abbrev pub covered : List ℕ → List Bool
covered set = only_set 91 21 set

pub record CrcExamples : Type 0 where
  -- CRC with only B111 set
  pub example6 : crc10 (covered (111 ∷ [])) ≡ bits_of 10 0b1000110011
  -- CRC with only B110 set
  pub example7-one : crc10 (covered (110 ∷ [])) ≡ bits_of 10 0b1001010101
  -- with both
  pub example7-both : crc10 (covered (110 ∷ 111 ∷ [])) ≡ bits_of 10 0b0001100110
