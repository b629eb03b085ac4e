-- `ledger_numbers::limited_sum` meets its contract. Assumes nothing.
use native.Mathlib.Omega.{arith}
use borrow.Author.Rules.{rules}
use Rattle.bits.specs.Layout.{sum}
use Rattle.bits.proofs.Layouts.{sum-take, sum-next}
use Rattle.ledger_numbers.proofs.limited_sum.Goals as goal

pub loop-count-init : goal.loop-count-init
unfolding sum
loop-count-init c = search rules

pub returns-then-count-total : goal.returns-then-count-total
returns-then-count-total c = omega (arith, sum-next c.args.refused.now c.loop-count.count-index (search rules))

pub loop-count-preserved : goal.loop-count-preserved
loop-count-preserved c = (omega (arith, sum-take c.args.refused.now c.loop-count.count-index (search rules)), search rules)
