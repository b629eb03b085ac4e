-- `lanes::half_adder` meets its contract. Assumes nothing.
use Rattle.lanes.proofs.Adders.{lane-half}
use Rattle.lanes.proofs.half_adder.Goals as goal

pub returns : goal.returns
returns c i = lane-half c.args.x c.args.y i
