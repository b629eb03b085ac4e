-- The check sums of a word, 64 at a time, in machine words. Only the crates of the repair speak of them; what the box
-- promises (Repair, Promises of dsc) does not.
-- Assumes nothing.
use Rattle.std.specs.Prelude.{◌≡◌, Bool, false, cond, List, ℕ, ◌+◌, ◌-◌, ◌*◌, ◌<◌, ltb}
use Rattle.lanes.specs.Lane.{lane}
use Rattle.dsc.specs.CheckTable.{differences, coefficient, sum_over, syndrome}

-- the coefficient of x^n in x^d times w
abbrev pub times_power : ℕ → List Bool → ℕ → Bool
times_power d w n = cond (ltb n d) false (coefficient w (n - d))

-- the coefficient of x^n in the product of w and the sum of x^d over the differences d
abbrev pub product : List Bool → ℕ → Bool
product w n = sum_over (λ d. times_power d w n) differences

-- x is limb k of that product: 64 coefficients
pub record Limb (w : List Bool) (k x : ℕ) : Type 0 where
  pub each : (i : ℕ) → i < 64 → lane x i ≡ product w (64 * k + i)

-- the first n lanes of x are the sums of w on the rows from s on
pub record Sums (w : List Bool) (s n x : ℕ) : Type 0 where
  pub each : (i : ℕ) → i < n → lane x i ≡ syndrome w (s + i)

-- five machine words hold the sums on all 273 rows
pub record AllSums (w : List Bool) (a b c d e : ℕ) : Type 0 where
  pub rows0 : Sums w 0 64 a
  pub rows64 : Sums w 64 64 b
  pub rows128 : Sums w 128 64 c
  pub rows192 : Sums w 192 64 d
  pub rows256 : Sums w 256 17 e
