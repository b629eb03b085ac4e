use mathlib.Core.Path.{◌≡◌}
use mathlib.Core.Bool.{false}
use Prim.Native.Nat.{◌-◌}
use lib.ListN.{length, drop}
use Rattle.dsc_bits.specs.Words.{at}
use Rattle.dsc_bits.proofs.Steps.{Filled}
use Rattle.dsc_shift_register.specs.Register.{decided}
use Rattle.dsc_majority.proofs.decide_bits.Given as goal

-- `dsc_majority::decide_bits` meets its contract: the bits passed are decided, and the state decides those to come. Assumes nothing.
abbrev pub invariant-loop-n : goal.invariant-loop-n
invariant-loop-n l = Filled false 187 (at (decided l.initial.s l.r)) l.n l.w × (length l.s ≡ 82) × (drop l.n (decided l.initial.s l.r) ≡ decided l.s (drop l.n l.r))

abbrev pub decreases-loop-n : goal.decreases-loop-n
decreases-loop-n l = 187 - l.n
