-- `ledger_parser::read_numbers` meets its contract. Assumes nothing.
use Rattle.ledger.specs.Report.{labels}
use Rattle.ledger_parser.proofs.Parsed.{Numbered}
use Rattle.ledger_parser.proofs.read_numbers.Given as goal

abbrev pub invariant-loop-i : goal.invariant-loop-i
invariant-loop-i l = Numbered labels l.text l.numbers l.rest l.i
