use Rattle.std.proofs.Common.{◌≡◌, ℕ, List, ◌++◌, ◌%◌, length}
use Rattle.std.specs.Slice.Iter.{chunks_exact_rest, chunks_exact_size}
use Rattle.bits.specs.Bits.{bits}
use Rattle.crc.specs.Crc.{crc32_of}
use Rattle.crc32.proofs.feed_groups.Given as goal

-- the register is the CRC of the whole groups passed, and these stand before the rest of s
pub record Passed (s : List ℕ) (r : ℕ) (rest : List ℕ) : Type 0 where
  pub groups : List ℕ
  pub all : s ≡ groups ++ rest
  pub whole : length groups % 8 ≡ 0
  pub register : r ≡ crc32_of (bits groups)

-- What holds before each turn of the loop of `crc32::feed_groups`.
abbrev pub invariant-loop-group : goal.invariant-loop-group
invariant-loop-group l =
    record { eight : chunks_exact_size l.group-iterator ≡ 8; passed : Passed l.s l.r (chunks_exact_rest l.group-iterator) }
