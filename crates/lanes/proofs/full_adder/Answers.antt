-- `lanes::full_adder` meets its contract. Assumes nothing.
use Rattle.lanes.proofs.Adders.{lane-full}
use Rattle.lanes.proofs.full_adder.Goals as goal

pub returns : goal.returns
returns c i = lane-full c.args.x c.args.y c.args.z i
