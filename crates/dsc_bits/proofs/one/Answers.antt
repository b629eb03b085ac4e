-- `dsc_bits::one` meets its contract: 1 for a set bit, 0 for a clear one. Assumes nothing.
use mathlib.Core.Path.{sym, ap}
use native.Mathlib.Omega.{arith}
use Rattle.bits.specs.Bits.{digit}
use Rattle.dsc_bits.proofs.one.Goals as goal

pub returns-then-b : goal.returns-then-b
unfolding digit
returns-then-b c = (ap digit (sym c.if-b.true), omega arith)

pub returns-else-b : goal.returns-else-b
unfolding digit
returns-else-b c = (ap digit (sym c.if-b.false), omega arith)
