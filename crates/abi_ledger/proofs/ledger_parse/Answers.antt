-- `abi_ledger::ledger_parse` meets its contract. Assumes nothing.
use Rattle.abi_ledger.proofs.Cases.{parse-other, parse-told}
use Rattle.abi_ledger.proofs.ledger_parse.Goals as goal

pub returns-then-numbers-ne12 : goal.returns-then-numbers-ne12
returns-then-numbers-ne12 c =
    let both = parse-other _ _ _ c.if-numbers-ne12.true c.status.ensures in
    record { status = both.0; numbers = both.1 }

pub returns : goal.returns
returns c =
    let both = parse-told _ _ _ c.if-numbers-ne12.false _ _ c.parse.ensures (c.put_answer.ensures.status, c.put_answer.ensures.numbers) in
    record { status = both.0; numbers = both.1 }
