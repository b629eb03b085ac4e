-- `abi_ledger::ledger_length` meets its contract. Assumes nothing.
use borrow.Author.Rules.{rules}
use Rattle.abi_ledger.proofs.Cases.{length-other, length-fits, length-told}
use Rattle.abi_ledger.proofs.ledger_length.Goals as goal

pub returns-then-numbers-ne12 : goal.returns-then-numbers-ne12
returns-then-numbers-ne12 c = length-other _ _ c.if-numbers-ne12.true c.status.ensures

pub overflow_cast-length : goal.overflow_cast-length
overflow_cast-length c =
    let fits = length-fits c.args.numbers.now 0 c.if-numbers-ne12.false _ _ c.ledger_from.ensures c.report_length-length.ensures in
    search rules

pub returns : goal.returns
returns c =
    length-told _ _ c.if-numbers-ne12.false _ _ c.ledger_from.ensures c.report_length-length.ensures c.status-2.ensures
