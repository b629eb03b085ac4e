-- Bits and bytes by index. Assumes nothing.
use mathlib.Core.Path.{◌≡◌, refl, ap, ◌∙◌}
use mathlib.Core.Bool.{Bool, false}
use mathlib.Core.List.{List}
use Prim.Native.Nat.{ℕ, zero, suc, ◌+◌, ◌*◌, ◌<◌}
use native.Mathlib.Numerals.{add-one}
use native.Mathlib.Omega.{arith}
use lib.ListN.{length, get_or, take, drop, length-drop}
use lib.Seq.{get_or-drop, drop-drop, take-suc}
use Rattle.bits.specs.Bits.{digit, value, bytes}
use Rattle.bits.proofs.Bits.{value-snoc}
use Rattle.gf2.specs.Polynomial.{zeros}
use Rattle.dsc_bits.specs.Words.{at}

pub zeros-at : (n k : ℕ) → at (zeros n) k ≡ false
zeros-at zero k = refl
zeros-at (suc n) zero = refl
zeros-at (suc n) (suc k) = zeros-at n k

-- byte j of a row of bits
pub bytes-at : (n : ℕ) (bs : List Bool) (j : ℕ) → j < n → get_or (bytes n bs) j 0 ≡ value (take 8 (drop (8 * j) bs))
unfolding bytes
bytes-at zero bs j h = absurd (omega arith)
bytes-at (suc n) bs zero h = refl
bytes-at (suc n) bs (suc j) h =
    bytes-at n (drop 8 bs) j (omega arith)
    ∙ ap (λ l. value (take 8 l)) (drop-drop (8 * j) 8 bs ∙ ap (λ k. drop k bs) (let e : 8 + 8 * j ≡ 8 * suc j = omega arith in e))

-- one bit more of a byte
pub value-next : (l : List Bool) (k i : ℕ) → k + i < length l → value (take (i + 1) (drop k l)) ≡ value (take i (drop k l)) * 2 + digit (at l (k + i))
value-next l k i h =
    let e : i < length (drop k l) = rw length-drop (omega arith) in
    rw (add-one, take-suc (drop k l) i false e, value-snoc, get_or-drop)
