use mathlib.Core.Bool.{false}
use Prim.Native.Nat.{◌-◌}
use Rattle.gf2.specs.Register.{step}
use Rattle.dsc_bits.specs.Words.{at}
use Rattle.dsc_bits.proofs.Steps.{Filled}
use Rattle.dsc_shift_register.proofs.Turns.{Kept}
use Rattle.dsc_shift_register.proofs.shift.Given as goal

-- `dsc_shift_register::shift` meets its contract: the cells passed hold what they are to hold, the others what they held. Assumes nothing.
abbrev pub invariant-loop-j : goal.invariant-loop-j
invariant-loop-j l = Filled false 82 (at (step l.g l.initial.s l.b)) l.j l.s × Kept l.initial.s l.j l.s

abbrev pub decreases-loop-j : goal.decreases-loop-j
decreases-loop-j l = 82 - l.j
