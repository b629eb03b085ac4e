-- What this crate promises of the two CRCs, for any message. The record has one value, proved in proofs/Promises.antt; `crc10` and `crc32` compute what it
-- speaks of, for any bytes.
-- Assumes nothing.
use Rattle.std.specs.Prelude.{◌≡◌, Bool, List, ◌++◌, ℕ, length}
use Rattle.gf2.specs.Polynomial.{zeros, add, mul, quotient}
use Rattle.bits.specs.Bits.{bits, bytes, Bytes}
use Rattle.crc.specs.Crc.{g10, g32, ones32, crc10, crc32, crc32_of}

pub record CrcLaws : Type 0 where
  -- a frame's CRC is what remains of the message times x^10: that is a multiple of x^10+x^9+x^5+x^4+x+1, and the CRC
  pub crc10-divides : (m : List Bool) → m ++ zeros 10 ≡ add (mul g10 (quotient g10 (length m) (m ++ zeros 10))) (zeros (length m) ++ crc10 m)
  -- the CRC of a sum is the sum of the CRCs
  pub crc10-add : (u w : List Bool) → length u ≡ length w → crc10 (add u w) ≡ add (crc10 u) (crc10 w)
  -- a header's CRC is what remains of the message times x^32, its first 32 coefficients turned over, since the register is all ones at the start
  pub crc32-divides : (m : List Bool) → let d = add ones32 (m ++ zeros 32) in d ≡ add (mul g32 (quotient g32 (length m) d)) (zeros (length m) ++ crc32 m)
  -- it comes out zero exactly where the last 32 bits are the CRC of those before them
  pub crc32-own : (m : List Bool) → crc32_of (m ++ crc32 m) ≡ 0
  pub crc32-only : (m x : List Bool) → length x ≡ 32 → crc32_of (m ++ x) ≡ 0 → x ≡ crc32 m
  -- so too of bytes, where the last four hold the CRC, highest byte first
  pub crc32-own-bytes : (s : List ℕ) → crc32_of (bits (s ++ bytes 4 (crc32 (bits s)))) ≡ 0
  pub crc32-only-bytes : (s x : List ℕ) → length x ≡ 4 → Bytes x → crc32_of (bits (s ++ x)) ≡ 0 → x ≡ bytes 4 (crc32 (bits s))
