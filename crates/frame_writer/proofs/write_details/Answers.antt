-- `frame_writer::write_details` meets its contract. Assumes nothing.
use mathlib.Core.Path.{◌∙◌, ap}
use mathlib.Core.List.{◌++◌}
use lib.ListN.{drop}
use Rattle.bits.specs.Bits.{bits}
use Rattle.bits.specs.Segment.{pack_segments}
use Rattle.frame.specs.Body.{layout}
use Rattle.frame.specs.Fields.{body_values}
use Rattle.frame_writer.specs.WriterParts.{detail_bits}
use Rattle.frame_writer.proofs.write_details.Goals as goal

pub returns : goal.returns
unfolding detail_bits
returns c =
    let s = c.args in
    c.write_details.ensures ∙ ap (λ y. pack_segments (layout y) (body_values y s.contents) ++ drop 88 (bits s.part.now)) c.record_body.ensures
