-- The lanes of what the machine computes: sums, shifts, cuts. Assumes nothing.
use mathlib.Core.Path.{◌≡◌, refl, sym, ap, ap₂, ◌∙◌}
use mathlib.Core.Bool.{Bool, true, false, true≢false, ◌&&◌, ◌||◌}
use Prim.Native.Nat.{ℕ, zero, suc, ◌+◌, ◌-◌, ◌*◌, ◌/◌, ◌%◌, ◌^◌, ◌≤◌, ◌<◌}
use native.Mathlib.Nat.{zero-div, mul_assoc, mul-mod_left, div-eq_of_lt, lt_of_lt_of_le, mod-eq_of_lt, zero-mul}
use native.Mathlib.Omega.{arith}
use lib.Bits.{bit_xor, bit_and, bit_or, xor_shr, and_shr, or_shr, xor_mod, and_mod, or_mod, or_lt}
use lib.Dec.{eqb}
use lib.Pow.{shr-shr, shl-shr, field, mod-mod-pow, mod-pow-add, pow-add, pow_mono}
use Rattle.bits.specs.Bits.{digit, odd}
use Rattle.bits.proofs.Bits.{digit-odd}
use Rattle.gf2.specs.Polynomial.{◌⊕◌}
use Rattle.lanes.specs.Lane.{lane}

-- ---- an operation bit by bit

by_cases : (op : ℕ → ℕ → ℕ) (f : Bool → Bool → Bool)
    → eqb (op 0 0) 1 ≡ f false false → eqb (op 0 1) 1 ≡ f false true → eqb (op 1 0) 1 ≡ f true false → eqb (op 1 1) 1 ≡ f true true
    → (x y : ℕ) → x < 2 → y < 2 → eqb (op x y) 1 ≡ f (eqb x 1) (eqb y 1)
by_cases op f p q r s zero zero hx hy = p
by_cases op f p q r s zero (suc zero) hx hy = q
by_cases op f p q r s zero (suc (suc y)) hx hy = absurd (omega arith)
by_cases op f p q r s (suc zero) zero hx hy = r
by_cases op f p q r s (suc zero) (suc zero) hx hy = s
by_cases op f p q r s (suc zero) (suc (suc y)) hx hy = absurd (omega arith)
by_cases op f p q r s (suc (suc x)) y hx hy = absurd (omega arith)

module _ (op : ℕ → ℕ → ℕ) (shr : (a b k : ℕ) → op a b / 2 ^ k ≡ op (a / 2 ^ k) (b / 2 ^ k)) (low : (a b k : ℕ) → op a b % 2 ^ k ≡ op (a % 2 ^ k) (b % 2 ^ k)) where
  bit-by-bit : (f : Bool → Bool → Bool)
      → eqb (op 0 0) 1 ≡ f false false → eqb (op 0 1) 1 ≡ f false true → eqb (op 1 0) 1 ≡ f true false → eqb (op 1 1) 1 ≡ f true true
      → (a b i : ℕ) → lane (op a b) i ≡ f (lane a i) (lane b i)
  unfolding lane odd
  bit-by-bit f p q r s a b i =
      ap (λ x. eqb x 1) (ap (◌% 2) (shr a b i) ∙ low (a / 2 ^ i) (b / 2 ^ i) 1)
      ∙ by_cases op f p q r s (a / 2 ^ i % 2) (b / 2 ^ i % 2) (omega arith) (omega arith)

pub lane_xor : (a b i : ℕ) → lane (bit_xor a b) i ≡ lane a i ⊕ lane b i
lane_xor = bit-by-bit bit_xor xor_shr xor_mod ◌⊕◌ refl refl refl refl

pub lane_and : (a b i : ℕ) → lane (bit_and a b) i ≡ lane a i && lane b i
lane_and = bit-by-bit bit_and and_shr and_mod ◌&&◌ refl refl refl refl

pub lane_or : (a b i : ℕ) → lane (bit_or a b) i ≡ lane a i || lane b i
lane_or = bit-by-bit bit_or or_shr or_mod ◌||◌ refl refl refl refl

-- ---- shifts

pub lane-shr : (a k i : ℕ) → lane (a / 2 ^ k) i ≡ lane a (k + i)
unfolding lane
lane-shr a k i = ap odd (shr-shr a k i)

-- a number that is cut keeps its low lanes
pub lane-cut : (x m i : ℕ) → i < m → lane (x % 2 ^ m) i ≡ lane x i
unfolding lane odd
lane-cut x m i h =
    ap (λ n. eqb (x % 2 ^ n / 2 ^ i % 2) 1) (let e : m ≡ m - 1 - i + 1 + i = omega arith in e)
    ∙ ap (λ y. eqb (y % 2) 1) (field x (m - 1 - i + 1) i)
    ∙ ap (λ y. eqb y 1) (mod-mod-pow (x / 2 ^ i) (m - 1 - i) 1)

pub lane-shl-high : (a k j : ℕ) → k + j < 64 → lane (a * 2 ^ k % 2 ^ 64) (k + j) ≡ lane a j
unfolding lane
lane-shl-high a k j h = lane-cut (a * 2 ^ k) 64 (k + j) h ∙ ap odd (sym (shr-shr (a * 2 ^ k) k j) ∙ ap (◌/ 2 ^ j) (shl-shr a k))

pub lane-shl-low : (a k i : ℕ) → i < k → i < 64 → lane (a * 2 ^ k % 2 ^ 64) i ≡ false
unfolding lane odd
lane-shl-low a k i h h' =
    lane-cut (a * 2 ^ k) 64 i h'
    ∙ ap (λ y. eqb (y / 2 ^ i % 2) 1)
    (ap (λ n. a * 2 ^ n) (let e : k ≡ (k - i - 1) + 1 + i = omega arith in e) ∙ ap (a *◌) (pow-add 2 (k - i - 1 + 1) i) ∙ sym (mul_assoc a (2 ^ (k - i - 1 + 1)) (2 ^ i)))
    ∙ ap (λ y. eqb (y % 2) 1) (shl-shr (a * 2 ^ (k - i - 1 + 1)) i)
    ∙ ap (λ y. eqb (y % 2) 1) (ap (a *◌) (pow-add 2 (k - i - 1) 1) ∙ sym (mul_assoc a (2 ^ (k - i - 1)) 2))
    ∙ ap (λ y. eqb y 1) (mul-mod_left (a * 2 ^ (k - i - 1)) 2)

pub lane_past : (x k n : ℕ) → x < 2 ^ k → k ≤ n → lane x n ≡ false
unfolding lane odd
lane_past x k n h l = ap (λ y. eqb (y % 2) 1) (div-eq_of_lt (lt_of_lt_of_le h (pow_mono l)))

pub lane-zero : (i : ℕ) → lane 0 i ≡ false
unfolding lane odd
lane-zero i = ap (λ y. eqb (y % 2) 1) (zero-div (2 ^ i))

-- ---- words that are 0

pub lane-digit : (x k : ℕ) → x / 2 ^ k % 2 ≡ digit (lane x k)
unfolding lane
lane-digit x k = sym (digit-odd (x / 2 ^ k))

low-zero : (x k : ℕ) → ((i : ℕ) → i < k → lane x i ≡ false) → x % 2 ^ k ≡ 0
unfolding digit
low-zero x zero all = omega arith
low-zero x (suc k) all =
    ap (λ n. x % 2 ^ n) (let e : suc k ≡ 1 + k = omega arith in e)
    ∙ mod-pow-add x 1 k
    ∙ ap₂ (λ s t. s * 2 ^ k + t) (lane-digit x k ∙ ap digit (all k (omega arith))) (low-zero x k (λ i h. all i (omega arith)))
    ∙ ap (◌+ 0) (zero-mul (2 ^ k))

or_left : (a b : Bool) → a || b ≡ false → a ≡ false
or_left true b e = e
or_left false b e = refl

or_right : (a b : Bool) → a || b ≡ false → b ≡ false
or_right true b e = absurd (true≢false e)
or_right false b e = e

module _ (x y : ℕ) where
  pub none_left : bit_or x y ≡ 0 → (i : ℕ) → lane x i ≡ false
  none_left e i = or_left (lane x i) (lane y i) (sym (lane_or x y i) ∙ ap (λ z. lane z i) e ∙ lane-zero i)

  pub none_right : bit_or x y ≡ 0 → (i : ℕ) → lane y i ≡ false
  none_right e i = or_right (lane x i) (lane y i) (sym (lane_or x y i) ∙ ap (λ z. lane z i) e ∙ lane-zero i)

  pub none_both : x < 2 ^ 64 → y < 2 ^ 64 → ((i : ℕ) → i < 64 → lane x i ≡ false) → ((i : ℕ) → i < 64 → lane y i ≡ false) → bit_or x y ≡ 0
  none_both hx hy ex ey =
      sym (mod-eq_of_lt (or_lt 64 x y hx hy)) ∙ low-zero (bit_or x y) 64 (λ i h. lane_or x y i ∙ ap₂ ◌||◌ (ex i h) (ey i h))
