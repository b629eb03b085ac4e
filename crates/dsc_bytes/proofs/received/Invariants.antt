use mathlib.Core.Bool.{false}
use Rattle.dsc.specs.Repair.{protected}
use Rattle.dsc_bits.specs.Words.{at}
use Rattle.dsc_bits.proofs.Steps.{Filled}
use Rattle.dsc_bytes.proofs.received.Given as goal

-- `dsc_bytes::received` meets its contract. Assumes nothing.
abbrev pub invariant-loop-n : goal.invariant-loop-n
invariant-loop-n l = Filled false 187 (at (protected l.f)) l.n l.w
