-- `decimals::put_decimal` meets its contract. Assumes nothing.
use native.Mathlib.Omega.{arith}
use Rattle.decimals.proofs.Written.{written_none, written_next, written_all}
use Rattle.decimals.proofs.put_decimal.Goals as goal

pub loop-place-init : goal.loop-place-init
loop-place-init c = written_none c.args.out.now c.args.at c.args.n _ _ (omega arith) (omega arith) (omega arith)

pub loop-place-preserved : goal.loop-place-preserved
loop-place-preserved c = written_next c.loop-place.invariant _ (omega arith) (omega arith)

pub returns : goal.returns
returns c = written_all c.loop-place.invariant _ (omega arith) (omega arith)
