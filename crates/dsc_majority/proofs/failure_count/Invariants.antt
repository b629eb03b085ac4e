use mathlib.Core.Path.{◌≡◌}
use Prim.Native.Nat.{◌≤◌, ◌-◌, ◌+◌}
use lib.ListN.{drop}
use Rattle.dsc.specs.Code.{count}
use Rattle.dsc.specs.CheckTable.{rows_of, syndrome, failures}
use Rattle.dsc_shift_register.specs.Register.{decided_place}
use Rattle.dsc_majority.proofs.failure_count.Given as goal

-- `dsc_majority::failure_count` meets its contract: the count so far and that of the rows to come make the whole. Assumes nothing.
abbrev pub invariant-loop-i : goal.invariant-loop-i
invariant-loop-i l = (l.i ≤ 17) × (l.n ≤ l.i) × (l.n + count (syndrome l.s) (drop l.i (rows_of decided_place)) ≡ failures l.s decided_place)

abbrev pub decreases-loop-i : goal.decreases-loop-i
decreases-loop-i l = 17 - l.i
