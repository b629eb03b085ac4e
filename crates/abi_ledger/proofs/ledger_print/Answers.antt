-- `abi_ledger::ledger_print` meets its contract. Assumes nothing.
use Rattle.abi_ledger.proofs.Cases.{print-other, print-told}
use Rattle.abi_ledger.proofs.ledger_print.Goals as goal

pub returns-then-numbers-ne12 : goal.returns-then-numbers-ne12
returns-then-numbers-ne12 c =
    let both = print-other _ _ _ c.if-numbers-ne12.true c.status.ensures in
    record { status = both.0; text = both.1 }

pub returns : goal.returns
returns c =
    let both = print-told _ _ _ c.if-numbers-ne12.false _ _ _ c.ledger_from.ensures c.print-printed.ensures.number c.print-printed.ensures.text c.status-2.ensures in
    record { status = both.0; text = both.1 }
