-- `ledger_counter::count_frames` meets its contract. Assumes nothing.
use Rattle.ledger_counter.proofs.Cases.{CountedTo}
use Rattle.ledger_counter.proofs.count_frames.Given as goal

abbrev pub invariant-loop-frame : goal.invariant-loop-frame
invariant-loop-frame l = CountedTo l.edition l.input l.fn.ledger l.counted l.frame-iterator.rest.now l.frame-iterator.size
