-- `ledger_numbers::numbers_of` meets its contract: the reads are inside. Assumes nothing.
use borrow.Author.Rules.{rules}
use Rattle.ledger_numbers.proofs.Rows.{numbers-row}
use Rattle.ledger_numbers.proofs.numbers_of.Goals as goal

pub returns : goal.returns
returns c = numbers-row c.args.ledger (search rules)
