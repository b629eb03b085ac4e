-- What holds before each turn of the loop of `crc10::crc10`: the register is the CRC of the bits passed, and bit o of byte q is the next.
use mathlib.Core.Path.{◌≡◌}
use mathlib.Core.List.{List}
use Prim.Native.Nat.{ℕ, ◌+◌, ◌-◌, ◌*◌, ◌≤◌, ◌<◌}
use lib.ListN.{take, drop}
use Rattle.bits.specs.Bits.{bits}
use Rattle.crc.specs.Crc.{crc10_of}
use Rattle.crc10.proofs.crc10.Given as goal

pub record Passed (s : List ℕ) (at count r q o left : ℕ) : Type 0 where
  pub some : left ≤ count
  pub bit : o < 8
  pub place : at + (count - left) ≡ 8 * q + o
  pub register : r ≡ crc10_of (take (count - left) (drop at (bits s)))

abbrev pub invariant-loop-left : goal.invariant-loop-left
invariant-loop-left l = Passed l.s l.at l.count l.r l.q l.o l.left

abbrev pub decreases-loop-left : goal.decreases-loop-left
decreases-loop-left l = l.left
