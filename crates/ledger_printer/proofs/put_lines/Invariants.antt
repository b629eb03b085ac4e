-- `ledger_printer::put_lines` meets its contract. Assumes nothing.
use Rattle.ledger.specs.Report.{labels}
use Rattle.ledger_printer.proofs.Printed.{Lined}
use Rattle.ledger_printer.proofs.put_lines.Given as goal

abbrev pub invariant-loop-i : goal.invariant-loop-i
invariant-loop-i l = Lined labels l.numbers l.initial.out l.out l.at l.i
