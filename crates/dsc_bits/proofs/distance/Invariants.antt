use mathlib.Core.Path.{◌≡◌}
use Prim.Native.Nat.{◌≤◌, ◌-◌, ◌+◌}
use lib.ListN.{drop}
use Rattle.dsc.specs.Code.{dist}
use Rattle.dsc_bits.proofs.distance.Given as goal

-- `dsc_bits::distance` meets its contract: the count so far and that of the bits to come make the whole. Assumes nothing.
abbrev pub invariant-loop-i : goal.invariant-loop-i
invariant-loop-i l = (l.i ≤ 187) × (l.n ≤ l.i) × (l.n + dist (drop l.i l.u) (drop l.i l.w) ≡ dist l.u l.w)

abbrev pub decreases-loop-i : goal.decreases-loop-i
decreases-loop-i l = 187 - l.i
