use mathlib.Core.Path.{◌≡◌}
use Prim.Native.Nat.{◌≤◌, ◌-◌}
use lib.ListN.{drop}
use Rattle.dsc.specs.Code.{all_zero}
use Rattle.dsc_shift_register.proofs.is_zero.Given as goal

-- `dsc_shift_register::is_zero` meets its contract: the cells passed hold 0. Assumes nothing.
abbrev pub invariant-loop-j : goal.invariant-loop-j
invariant-loop-j l = (l.j ≤ 82) × (all_zero (drop l.j l.s) ≡ all_zero l.s)

abbrev pub decreases-loop-j : goal.decreases-loop-j
decreases-loop-j l = 82 - l.j
