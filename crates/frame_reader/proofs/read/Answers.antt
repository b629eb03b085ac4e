-- `frame_reader::read` meets its contract. Assumes nothing.
use mathlib.Core.Path.{ap}
use Rattle.frame_reader.specs.Examined.{examined_by}
use Rattle.frame_reader.specs.declared.Examined.{Examined}
use Rattle.frame_reader.proofs.read.Goals as goal

pub returns : goal.returns
unfolding examined_by
returns c = ap (λ (e : Examined). e.reading) c.examine-examined.ensures
