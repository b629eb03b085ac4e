-- `header_writer::put_front` meets its contract. Assumes nothing.
use mathlib.Core.Path.{◌≡◌, ◌∙◌, ap}
use mathlib.Core.List.{◌++◌}
use native.Mathlib.Omega.{arith}
use lib.ListN.{length, drop}
use Rattle.bits.specs.Bits.{bytes}
use Rattle.bits.specs.Segment.{pack_segments}
use Rattle.header.specs.Layout.{front_layout}
use Rattle.header_tables.proofs.Rows.{front-row}
use Rattle.header_writer.proofs.FieldsWritten.{write-room, written}
use borrow.Author.Rules.{rules}
use Rattle.header_writer.proofs.put_front.Goals as goal

pub write_fields-requires : goal.write_fields-requires
write_fields-requires c =
    let vs = c.front_fields-v.result in
    let l : length vs ≡ 119 = search rules in
    write-room front_layout c.front_layout-layout.result c.front_layout-layout.ensures 99 119 (length c.args.buffer.now) vs front-row (omega (arith, c.requires)) l (omega arith)

pub returns : goal.returns
returns c =
    let s = c.args.buffer.now in
    written front_layout c.front_layout-layout.result c.front_layout-layout.ensures 99 119 c.front_fields-v.result s c.write_fields.new.buf front-row (omega (arith, c.requires)) c.write_fields.auto.buf
    (λ i. (c.slice_known-1.given i).fits) (λ i. (c.type_inv.buffer i).fits) c.write_fields.ensures
    ∙ ap (λ v. bytes 99 (pack_segments front_layout v) ++ drop 99 s) c.front_fields-v.ensures
