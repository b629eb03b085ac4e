-- `dsc_majority::place` meets its contract: the table's rule, at one entry. Assumes nothing.
use native.Mathlib.Omega.{arith}
use Rattle.dsc_majority.proofs.place.Goals as goal

pub overflow_cast-result : goal.overflow_cast-result
overflow_cast-result c = omega (arith, c.requires.0.rule c.args.q c.args.i (omega arith) (omega arith))

pub returns : goal.returns
returns c = c.requires.0.rule c.args.q c.args.i (omega arith) (omega arith)
