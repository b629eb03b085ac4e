use mathlib.Core.Path.{◌≡◌}
use Prim.Native.Nat.{◌≤◌, ◌-◌}
use lib.ListN.{length, drop}
use Rattle.gf2.specs.Polynomial.{remainder}
use Rattle.dsc_encoder.proofs.divide.Given as goal

-- `dsc_encoder::divide` meets its contract: what is still to be divided has the remainder of the whole. Assumes nothing.
abbrev pub invariant-loop-k : goal.invariant-loop-k
invariant-loop-k l = (l.k ≤ 105) × (length l.w ≡ 187) × (remainder l.g (105 - l.k) (drop l.k l.w) ≡ remainder l.g 105 l.initial.w)

abbrev pub decreases-loop-k : goal.decreases-loop-k
decreases-loop-k l = 105 - l.k
