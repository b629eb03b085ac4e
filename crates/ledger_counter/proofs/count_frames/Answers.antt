-- `ledger_counter::count_frames` meets its contract. Assumes nothing.
use Rattle.ledger_counter.proofs.Cases.{counted_next, counted-all}
use Rattle.ledger_counter.proofs.count_frames.Goals as goal

pub loop-frame-preserved : goal.loop-frame-preserved
loop-frame-preserved c =
    let e = c.in-Some.ensures.steps in
    counted_next c.loop-frame.invariant _ _ _ _ e.0 (record { whole = e.1.0; size = e.1.1; some = e.1.2 }) c.count.ensures

pub returns : goal.returns
returns c = counted-all c.loop-frame.invariant c.in-None.ensures.steps.1.0
