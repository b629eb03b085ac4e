-- `abi_ledger::put_answer` meets its contract. Assumes nothing.
use Rattle.abi_ledger.proofs.Cases.{answer-refused, answer-told}
use mathlib.Core.Path.{◌∙◌}
use Rattle.abi_ledger.proofs.put_answer.Goals as goal

pub returns-then-answer-ne0 : goal.returns-then-answer-ne0
returns-then-answer-ne0 c =
    let both = answer-refused _ _ _ c.if-answer-ne0.true c.status.ensures in
    record { status = both.0; numbers = both.1 }

pub returns : goal.returns
returns c =
    let both = answer-told _ _ _ _ c.if-answer-ne0.false c.status-2.ensures (c.copy.ensures ∙ c.numbers_of-told.ensures) in
    record { status = both.0; numbers = both.1 }
