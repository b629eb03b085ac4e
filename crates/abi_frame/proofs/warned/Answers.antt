-- `abi_frame::warned` meets its contract. Assumes nothing.
use Rattle.bits.specs.Bits.{digit}
use Rattle.abi_frame.proofs.Cases.{warned-wrong, warned-answered}
use Rattle.abi_frame.proofs.warned.Goals as goal

pub returns-then-values-ne-VALUES : goal.returns-then-values-ne-VALUES
returns-then-values-ne-VALUES c = warned-wrong _ _ c.if-values-ne-VALUES.true c.status.ensures

pub returns-then-warned : goal.returns-then-warned
unfolding digit
returns-then-warned c =
    warned-answered _ _ c.if-values-ne-VALUES.false c.record_at.ensures c.warned.ensures c.if-warned.true c.status-then-warned.ensures

pub returns : goal.returns
unfolding digit
returns c =
    warned-answered _ _ c.if-values-ne-VALUES.false c.record_at.ensures c.warned.ensures c.if-warned.false c.status-2.ensures
