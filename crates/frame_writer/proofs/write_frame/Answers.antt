-- `frame_writer::write_frame` meets its contract. Assumes nothing.
use mathlib.Core.Path.{refl, ap, ◌∙◌}
use Prim.Native.Nat.{◌-◌}
use mathlib.Core.List.{◌++◌}
use lib.ListN.{length, take, drop}
use Rattle.dsc.specs.Encoding.{encode_of}
use Rattle.frame_writer.proofs.WritingFrame.{frame-written}
use Rattle.frame_writer.proofs.write_frame.Goals as goal

pub returns : goal.returns
returns c =
    let w = c.write_front.new.frame in
    let last = c.write_details.new.part in
    let v = take 3 w ++ (last ++ drop (length w - 3) (drop 3 w)) in
    c.encode.ensures ∙ ap encode_of c.put-2.ensures
    ∙ frame-written c.args.edition c.args.contents c.args.frame.now c.put.new.s w v last c.crc10-crc.result c.requires
    c.put.ensures c.write_front.ensures c.write_details.ensures refl c.crc10-crc.ensures
