-- `frame_details::write_details` meets its contract. Assumes nothing.
use mathlib.Core.Path.{refl, ap}
use lib.ListN.{length}
use Rattle.frame_details.proofs.Spans.{bounded, from_byte, from_field, to-field, length-widths, room_in, count-in}
use Rattle.frame_details.proofs.Writing.{room-kept, details-written}
use Rattle.frame_details.proofs.write_details.Goals as goal

pub slice_bounds-write_all-count : goal.slice_bounds-write_all-count
slice_bounds-write_all-count c = from_byte _ c.span_of-span.ensures (room-kept _ _ c.requires c.write_ones.ensures)

pub slice_bounds-write_all-start : goal.slice_bounds-write_all-start
slice_bounds-write_all-start c = from_byte _ c.span_of-span.ensures (room-kept _ _ c.requires c.write_ones.ensures)

pub offset_bounds-ws-from : goal.offset_bounds-ws-from
offset_bounds-ws-from c = from_field _ c.span_of-span.ensures

pub slice_bounds-write_all-count-2 : goal.slice_bounds-write_all-count-2
slice_bounds-write_all-count-2 c = (bounded _ c.span_of-span.ensures).ordered

pub slice_bounds-write_all-start-2 : goal.slice_bounds-write_all-start-2
slice_bounds-write_all-start-2 c = (bounded _ c.span_of-span.ensures).ordered

pub slice_bounds-write_all-end-2 : goal.slice_bounds-write_all-end-2
slice_bounds-write_all-end-2 c = to-field _ c.span_of-span.ensures (length-widths _ c.field_widths-ws.ensures)

pub offset_bounds-v-from : goal.offset_bounds-v-from
offset_bounds-v-from c = from_field _ c.span_of-span.ensures

pub slice_bounds-write_all-count-3 : goal.slice_bounds-write_all-count-3
slice_bounds-write_all-count-3 c = (bounded _ c.span_of-span.ensures).ordered

pub slice_bounds-write_all-start-3 : goal.slice_bounds-write_all-start-3
slice_bounds-write_all-start-3 c = (bounded _ c.span_of-span.ensures).ordered

pub slice_bounds-write_all-end-3 : goal.slice_bounds-write_all-end-3
slice_bounds-write_all-end-3 c = to-field _ c.span_of-span.ensures (ap length c.fields_of-v.ensures)

pub write_all-requires : goal.write_all-requires
write_all-requires c =
    let e = c.span_of-span.ensures in
    let w = c.field_widths-ws.ensures in
    let h = room-kept c.args.body c.args.part.now c.requires c.write_ones.ensures in
    (room_in c.args.body e w c.write_ones.new.part h, count-in c.args.body e w _ (ap length c.fields_of-v.ensures))

pub returns : goal.returns
returns c =
    details-written c.args.body c.args.part.now c.requires c.args.contents c.write_all.new.buf c.span_of-span.ensures c.field_widths-ws.ensures
    c.fields_of-v.ensures c.write_ones.ensures c.write_all.ensures refl
