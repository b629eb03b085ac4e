-- `ledger_counter::count_turn` meets its contract. Assumes nothing.
use Rattle.ledger_input.proofs.Turns.{turn-ended, turn-full}
use Rattle.ledger_counter.proofs.count_turn.Goals as goal

pub returns-then-input-before : goal.returns-then-input-before
returns-then-input-before c = turn-ended _ _ _ _ c.count_frames-ledger.ensures c.if-input-before.true

pub returns : goal.returns
returns c =
    turn-full _ _ _ _ c.count_frames-ledger.ensures _ c.if-input-before.false c.wanted_at.ensures
