use Rattle.std.proofs.Common.{◌≡◌, ◌+◌, ◌*◌, ◌/◌, length, take}
use Rattle.bits.specs.Bits.{bits}
use Rattle.crc.specs.Crc.{crc32_of}
use Rattle.crc32.proofs.crc32.Given as goal

-- What holds before each turn of the loop of `crc32::crc32`: the register is the CRC of the bytes passed.
abbrev pub invariant-loop-byte : goal.invariant-loop-byte
invariant-loop-byte l = l.r ≡ crc32_of (bits (take (length l.s / 8 * 8 + l.byte-index) l.s))
