use Rattle.std.proofs.Common.{◌≡◌, ◌-◌, ◌/◌, ◌^◌}
use Rattle.gf2.specs.Register.{feed}
use Rattle.bits.specs.Bits.{value, bits_of}
use Rattle.crc.specs.Crc.{g32}
use Rattle.crc32.proofs.feed_byte.Given as goal

-- What holds before each turn of the loop of `crc32::feed_byte`: the register has taken in the i high bits of the byte.
abbrev pub invariant-loop-i : goal.invariant-loop-i
invariant-loop-i l = l.z ≡ value (feed g32 (bits_of 32 l.r) (bits_of l.i (l.b / 2 ^ (8 - l.i))))
