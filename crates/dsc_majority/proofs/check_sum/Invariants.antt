use mathlib.Core.Path.{◌≡◌}
use Prim.Native.Nat.{◌≤◌, ◌-◌}
use lib.ListN.{drop}
use Rattle.gf2.specs.Polynomial.{◌⊕◌}
use Rattle.dsc.specs.CheckTable.{sum_over, row, coefficient, syndrome}
use Rattle.dsc_majority.proofs.check_sum.Given as goal

-- `dsc_majority::check_sum` meets its contract: the sum so far and that of the places to come make the row's. Assumes nothing.
abbrev pub invariant-loop-i : goal.invariant-loop-i
invariant-loop-i l = (l.i ≤ 17) × (l.sum ⊕ sum_over (coefficient l.s) (drop l.i (row l.q)) ≡ syndrome l.s l.q)

abbrev pub decreases-loop-i : goal.decreases-loop-i
decreases-loop-i l = 17 - l.i
