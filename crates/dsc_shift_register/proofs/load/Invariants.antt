use mathlib.Core.Path.{◌≡◌}
use Prim.Native.Nat.{◌≤◌, ◌-◌}
use lib.ListN.{length, drop}
use Rattle.gf2.specs.Register.{feed}
use Rattle.dsc.specs.Code.{generator_low}
use Rattle.dsc_shift_register.specs.Register.{loaded}
use Rattle.dsc_shift_register.proofs.load.Given as goal

-- `dsc_shift_register::load` meets its contract: the bits to come, into the state so far, make the loaded state. Assumes nothing.
abbrev pub invariant-loop-n : goal.invariant-loop-n
invariant-loop-n l = (l.n ≤ 187) × (length l.s ≡ 82) × (feed generator_low l.s (drop l.n l.w) ≡ loaded l.w)

abbrev pub decreases-loop-n : goal.decreases-loop-n
decreases-loop-n l = 187 - l.n
