-- `ledger_counter::count` meets its contract. Assumes nothing.
use mathlib.Core.Bool.{not}
use mathlib.Core.Path.{ap}
use Rattle.ledger_counter.proofs.Cases.{count-impossible, passed, count-full, count-counted, verdict-number}
use Rattle.ledger_counter.proofs.count.Goals as goal

pub returns-then-not-possible : goal.returns-then-not-possible
returns-then-not-possible c = count-impossible _ _ _ _ c.possible.ensures (ap not c.if-not-possible.true)

pub returns-then-ledger-eq4000000 : goal.returns-then-ledger-eq4000000
returns-then-ledger-eq4000000 c =
    count-full _ _ _ _ c.possible.ensures (ap not c.if-not-possible.false) c.if-ledger-eq4000000.true

pub with_verdict-requires : goal.with_verdict-requires
with_verdict-requires c =
    let a = c.args in record { ledger_value = passed a.edition _ a.frame.now _ c.possible.ensures (ap not c.if-not-possible.false); number_bound = verdict-number a.edition a.frame.now _ c.judge.ensures }

pub returns : goal.returns
returns c =
    count-counted _ _ _ _ c.possible.ensures (ap not c.if-not-possible.false) c.if-ledger-eq4000000.false _ _ c.judge.ensures c.with_verdict.ensures
