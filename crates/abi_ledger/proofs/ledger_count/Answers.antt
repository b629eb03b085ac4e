-- `abi_ledger::ledger_count` meets its contract. Assumes nothing.
use Rattle.abi_ledger.proofs.Cases.{count-other, count-told}
use Rattle.abi_ledger.proofs.ledger_count.Goals as goal

pub returns-then-numbers-ne12 : goal.returns-then-numbers-ne12
returns-then-numbers-ne12 c =
    let both = count-other _ _ _ _ c.if-numbers-ne12.true c.status.ensures in
    record { status = both.0; numbers = both.1 }

pub returns : goal.returns
returns c =
    let both = count-told _ _ _ _ c.if-numbers-ne12.false _ _ _ _ c.ledger_from-ledger.ensures c.edition_of.ensures c.count.ensures
    (c.put_answer.ensures.status, c.put_answer.ensures.numbers) in
    record { status = both.0; numbers = both.1 }
