-- `ledger_printer::lines_length` meets its contract. Assumes nothing.
use Rattle.ledger_printer.proofs.Printed.{Counted}
use Rattle.ledger_printer.proofs.lines_length.Given as goal

abbrev pub invariant-loop-number : goal.invariant-loop-number
invariant-loop-number l = Counted l.numbers l.total l.number-index
