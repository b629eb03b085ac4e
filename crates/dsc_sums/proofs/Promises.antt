-- The promises of this crate, each by the laws that prove it. Assumes nothing.
use mathlib.Core.Path.{◌≡◌, refl, sym, ap, ◌∙◌}
use mathlib.Core.Bool.{Bool, ◌&&◌}
use mathlib.Core.List.{List, map}
use Prim.Native.Nat.{ℕ, ◌+◌, ◌-◌, ◌%◌, ◌<◌}
use native.Mathlib.Omega.{arith}
use lib.ListN.{length}
use Rattle.gf2.specs.Polynomial.{◌⊕◌, member}
use Rattle.dsc.specs.Code.{count}
use Rattle.dsc.specs.CheckTable.{differences, row, CheckTable, row_at, coefficient, sum_over, syndrome, upto, failures}
use Rattle.dsc.proofs.TableRows.{table-row, row_moved}
use Rattle.dsc.proofs.Incidence.{count-upto, over-rows}
use Rattle.dsc_sums.specs.Sums.{product}
use Rattle.dsc_sums.specs.Promises.{first_differences, ShiftsOfTable}
use Rattle.dsc_sums.proofs.Products.{folded}

-- taken back from row 0, the differences come out
back : map (λ q. (273 - q) % 273) (row 0) ≡ differences
unfolding differences
back = refl

module _ (t : List ℕ) (k : CheckTable t) where
  first-row : row_at t 0 ≡ row 0
  first-row = table-row t k 0 (omega arith)

  shifts : first_differences t ≡ differences
  shifts = ap (map (λ q. (273 - q) % 273)) first-row ∙ back

  by-first-row : (s : ℕ) → s < 273 → row_at t s ≡ map (λ q. (q + s) % 273) (row_at t 0)
  by-first-row s h = table-row t k s h ∙ row_moved s h ∙ ap (map (λ q. (q + s) % 273)) (sym first-row)

  module _ (w : List Bool) where
    sums : length w ≡ 187 → (s : ℕ) → s < 273 → sum_over (coefficient w) (row_at t s) ≡ product w s ⊕ product w (s + 273)
    sums l s h = ap (sum_over (coefficient w)) (table-row t k s h) ∙ folded w l s h

    counts : (p : ℕ) → p < 273 → count (λ s. member p (row_at t s) && sum_over (coefficient w) (row_at t s)) (upto 273) ≡ failures w p
    counts p h =
        count-upto 273 (λ s. member p (row_at t s) && sum_over (coefficient w) (row_at t s)) (λ s. member p (row s) && syndrome w s)
        (λ s hs. ap (λ r. member p r && sum_over (coefficient w) r) (table-row t k s hs))
        ∙ over-rows p h (syndrome w)

pub shifts-of-table : ShiftsOfTable
shifts-of-table = record { shifts = shifts; by-first-row = by-first-row; sums = sums; counts = counts }
