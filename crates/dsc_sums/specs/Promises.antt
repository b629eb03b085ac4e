-- Where the engine's shifts come from, which its code has as numbers: from the first row of the check table, which gives all the others. So what the engine
-- adds up and counts are the sums on the table's rows. The record has one value, proved in proofs/Promises.antt.
-- Assumes nothing.
use Rattle.std.specs.Prelude.{◌≡◌, Bool, ◌&&◌, List, map, ℕ, ◌+◌, ◌-◌, ◌%◌, ◌<◌, length}
use Rattle.gf2.specs.Polynomial.{◌⊕◌, member}
use Rattle.dsc.specs.Code.{count}
use Rattle.dsc.specs.CheckTable.{differences, CheckTable, row_at, coefficient, sum_over, upto, failures}
use Rattle.dsc_sums.specs.Sums.{product}

-- the differences that the first row of a table holds: row 0 has the places -d
abbrev pub first_differences : List ℕ → List ℕ
first_differences t = map (λ q. (273 - q) % 273) (row_at t 0)

-- of every table that meets the check table's rule, so of the shipped one
pub record ShiftsOfTable : Type 0 where
  -- the shifts of the product (`product::limb0` to `limb6`) and of the majority (`dsc_errors::majority`) are the first row's differences
  pub shifts : (t : List ℕ) → CheckTable t → first_differences t ≡ differences
  -- that row gives every other: row s is the first one moved on by s
  pub by-first-row : (t : List ℕ) → CheckTable t → (s : ℕ) → s < 273 → row_at t s ≡ map (λ q. (q + s) % 273) (row_at t 0)
  -- the sum on row s of the table is the coefficient of x^s in the product, where what is past x^272 comes round
  pub sums : (t : List ℕ) → CheckTable t → (w : List Bool) → length w ≡ 187 → (s : ℕ) → s < 273
      → sum_over (coefficient w) (row_at t s) ≡ product w s ⊕ product w (s + 273)
  -- what is counted for place p are the rows of the table that hold p and fail
  pub counts : (t : List ℕ) → CheckTable t → (w : List Bool) (p : ℕ) → p < 273
      → count (λ s. member p (row_at t s) && sum_over (coefficient w) (row_at t s)) (upto 273) ≡ failures w p
