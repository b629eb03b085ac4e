-- `frame_writer::front_values` meets its contract. Assumes nothing.
use Rattle.frame_writer.specs.WriterParts.{front_values}
use Rattle.frame_writer.proofs.front_values.Goals as goal

pub returns : goal.returns
unfolding front_values
returns c = cc
