-- What each table holds, computed from its entries at the powers of 2. Assumes nothing.
use mathlib.Core.Path.{◌≡◌}
use mathlib.Core.Bool.{Bool}
use mathlib.Core.List.{List}
use Prim.Native.Nat.{ℕ, ◌^◌, ◌≤◌, ◌<◌}
use native.Mathlib.Nat.{lt_of_lt_of_le}
use native.Mathlib.Omega.{arith}
use lib.ListN.{length, get_or}
use lib.Pow.{pow_mono}
use Rattle.crc.specs.Crc.{g10, g32}
use Rattle.crc.specs.Remainders.{remainder_of}
use Rattle.crc.proofs.Crc.{length-g10, length-g32}
use Rattle.crc.proofs.Table.{remainder-lt, remainder-xor, remainder-zero, sums, powers, length-sums, get_or-sums}

-- what remains of each byte by the generator g, n bytes before the last one
unfoldable pub entries : List Bool → ℕ → List ℕ
entries g n = sums (powers (remainder_of g n) 8)

pub length-entries : (g : List Bool) (n : ℕ) → length (entries g n) ≡ 256
unfolding entries
length-entries g n = length-sums (remainder_of g n) 8

pub entry : (g : List Bool) (n b : ℕ) → b < 256 → get_or (entries g n) b 0 ≡ remainder_of g n b
unfolding entries
entry g n b h = get_or-sums (remainder_of g n) (remainder-zero g n) (remainder-xor g n) 8 b h

-- a register of at most 32 bits
pub entry-fits : (g : List Bool) (n : ℕ) → length g ≤ 32 → (b : ℕ) → b < length (entries g n) → get_or (entries g n) b 0 < 2 ^ 32
entry-fits g n w b h = rw (entry g n b (rw (length-entries g n) at h)) (lt_of_lt_of_le (remainder-lt g n b) (pow_mono {i = length g} {j = 32} w))

pub narrow10 : length g10 ≤ 32
narrow10 = omega (arith, length-g10)

pub narrow32 : length g32 ≤ 32
narrow32 = omega (arith, length-g32)
