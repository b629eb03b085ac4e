-- `ledger_printer::lines_length` meets its contract. Assumes nothing.
use Prim.Native.Nat.{◌+◌}
use native.Mathlib.Omega.{arith}
use borrow.Author.Rules.{rules}
use Rattle.ledger_printer.proofs.Printed.{Counted, counted_none, counted_next, counted-all}
use Rattle.ledger_printer.proofs.lines_length.Goals as goal
use Rattle.ledger_printer.proofs.lines_length.Goals.{After-digit_count-total}

pub loop-number-init : goal.loop-number-init
loop-number-init c = counted_none c.args.numbers.now (omega arith)

-- the digits of the number that is looked at
next : (c : After-digit_count-total) → Counted c.args.numbers.now (c.loop-number.total + c.digit_count-total.result) (c.loop-number.number-index + 1)
next c =
    counted_next c.loop-number.invariant c.digit_count-total.result (omega arith) (search rules) c.digit_count-total.ensures

pub overflow_add-total : goal.overflow_add-total
overflow_add-total c = omega (arith, (next (goal.at.overflow_add-total c).After-digit_count-total).small)

pub loop-number-preserved : goal.loop-number-preserved
loop-number-preserved c = next (goal.at.loop-number-preserved c).After-digit_count-total

pub returns : goal.returns
returns c = counted-all c.loop-number.invariant (omega arith)
