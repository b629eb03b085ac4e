-- `frame_writer::write_front` meets its contract. Assumes nothing.
use lib.ListN.{length}
use Rattle.bits.specs.Bits.{bits}
use Rattle.frame_writer.specs.WriterParts.{front_widths}
use Rattle.frame_writer.proofs.WritingParts.{front-layout, front-count, front-written}
use Rattle.frame_writer.proofs.write_front.Goals as goal

pub write_all-requires : goal.write_all-requires
unfolding front_widths
write_all-requires c =
    (front-layout (length c.args.frame.now) c.requires, front-count c.args.edition c.args.contents c.front_values-vs.result c.front_values-vs.ensures)

pub returns : goal.returns
unfolding front_widths
returns c =
    front-written c.args.edition c.args.contents c.front_values-vs.result (bits c.args.frame.now) (bits c.write_all.new.buf) c.front_values-vs.ensures c.write_all.ensures
