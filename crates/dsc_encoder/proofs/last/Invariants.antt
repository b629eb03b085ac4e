use mathlib.Core.Bool.{false}
use Prim.Native.Nat.{◌-◌}
use lib.ListN.{drop}
use Rattle.dsc_bits.specs.Words.{at}
use Rattle.dsc_bits.proofs.Steps.{Filled}
use Rattle.dsc_encoder.proofs.last.Given as goal

-- `dsc_encoder::last` meets its contract. Assumes nothing.
abbrev pub invariant-loop-n : goal.invariant-loop-n
invariant-loop-n l = Filled false 82 (at (drop 105 l.w)) l.n l.p

abbrev pub decreases-loop-n : goal.decreases-loop-n
decreases-loop-n l = 82 - l.n
