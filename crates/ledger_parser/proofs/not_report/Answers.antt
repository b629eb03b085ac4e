-- `ledger_parser::not_report` meets its contract. Assumes nothing.
use Rattle.ledger_parser.proofs.not_report.Goals as goal

pub returns : goal.returns
returns c = λ i. record { number = 18; ledger = c.fresh.ensures i }
