-- Worked examples 6 and 7 hold. Assumes nothing.
use mathlib.Core.Path.{refl}
use Rattle.gf2.specs.Polynomial.{member, poly, add, scale, remainder}
use Rattle.bits.specs.Bits.{odd, bits_of}
use Rattle.crc.specs.Crc.{crc, crc10}
use Rattle.crc.specs.Examples.{CrcExamples, only_set}

pub crc-examples : CrcExamples
unfolding crc crc10 only_set member poly add scale remainder bits_of odd
crc-examples = record { example6 = refl; example7-one = refl; example7-both = refl }
