use mathlib.Core.Bool.{false}
use mathlib.Core.List.{◌++◌}
use Prim.Native.Nat.{◌-◌}
use lib.ListN.{take}
use Rattle.gf2.specs.Polynomial.{zeros}
use Rattle.dsc_bits.specs.Words.{at}
use Rattle.dsc_bits.proofs.Steps.{Filled}
use Rattle.dsc_encoder.proofs.shifted.Given as goal

-- `dsc_encoder::shifted` meets its contract. Assumes nothing.
abbrev pub invariant-loop-n : goal.invariant-loop-n
invariant-loop-n l = Filled false 187 (at (take 105 l.w ++ zeros 82)) l.n l.d

abbrev pub decreases-loop-n : goal.decreases-loop-n
decreases-loop-n l = 187 - l.n
