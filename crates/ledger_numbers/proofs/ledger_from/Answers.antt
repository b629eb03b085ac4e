-- `ledger_numbers::ledger_from` meets its contract: the reads are inside. Assumes nothing.
use borrow.Author.Rules.{rules}
use Rattle.ledger_numbers.proofs.Rows.{ledger-row}
use Rattle.ledger_numbers.proofs.ledger_from.Goals as goal

pub returns : goal.returns
returns c =
    let a = c.args in
    ledger-row a.numbers.now (search rules)
