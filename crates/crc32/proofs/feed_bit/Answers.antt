-- `crc32::feed_bit` meets its contract. Assumes nothing.
use mathlib.Core.Path.{◌≡◌, refl, ap, ◌∙◌}
use Prim.Native.Nat.{ℕ, zero, suc, ◌*◌, ◌/◌, ◌%◌, ◌^◌, ◌<◌}
use native.Mathlib.Omega.{arith}
use lib.Bits.{bit_xor}
use lib.Dec.{lit<, lit≤}
use Rattle.gf2.specs.Polynomial.{add, scale, remainder, check_bits}
use Rattle.bits.specs.Bits.{digit, odd, value, bits_of}
use Rattle.crc.specs.Crc.{g32}
use Rattle.crc.specs.Remainders.{remainder_of}
use Rattle.crc.proofs.Crc.{length-g32}
use Rattle.crc.proofs.Turn.{index-lt, turn}
use Rattle.crc32.proofs.feed_bit.Goals as goal
use Rattle.crc32.proofs.feed_bit.Goals.{Start}

-- what remains of a bit, in place of a byte: the generator, or nothing
remainder-bit : (k : ℕ) → k < 2 → k * 0x04C11DB7 ≡ remainder_of g32 0 k
unfolding remainder_of check_bits remainder add scale bits_of odd value digit
remainder-bit zero h = refl
remainder-bit (suc zero) h = refl
remainder-bit (suc (suc k)) h = absurd (omega arith)

leaving : (c : Start) → bit_xor (c.args.r / 2 ^ 31) c.args.b < 2
leaving c = index-lt c.args.r c.args.b 32 31 1 refl (omega arith) c.requires

pub overflow_mul-result : goal.overflow_mul-result
overflow_mul-result c = omega (arith, leaving (goal.at.overflow_mul-result c).Start)

pub returns : goal.returns
returns c =
    let a = c.args in
    ap (bit_xor (a.r * 2 ^ 1 % 2 ^ 32)) (remainder-bit (bit_xor (a.r / 2 ^ 31) a.b) (leaving (goal.at.returns c).Start))
    ∙ turn a.r a.b 32 31 1 refl (omega arith) c.requires g32 length-g32 (lit< tt) (lit≤ tt)
