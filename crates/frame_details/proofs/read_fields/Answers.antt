-- `frame_details::read_fields` meets its contract. Assumes nothing.
use mathlib.Core.Path.{refl}
use Rattle.frame_details.proofs.Spans.{bounded, from_byte, from_field, to-field, length-widths, room_in, count-in}
use Rattle.frame_details.proofs.Reading.{fields-found}
use Rattle.frame_details.proofs.read_fields.Goals as goal

pub slice_bounds-read_all-count : goal.slice_bounds-read_all-count
slice_bounds-read_all-count c = from_byte _ c.span_of-span.ensures c.requires

pub slice_bounds-read_all-start : goal.slice_bounds-read_all-start
slice_bounds-read_all-start c = from_byte _ c.span_of-span.ensures c.requires

pub offset_bounds-ws-from : goal.offset_bounds-ws-from
offset_bounds-ws-from c = from_field _ c.span_of-span.ensures

pub slice_bounds-read_all-count-2 : goal.slice_bounds-read_all-count-2
slice_bounds-read_all-count-2 c = (bounded _ c.span_of-span.ensures).ordered

pub slice_bounds-read_all-start-2 : goal.slice_bounds-read_all-start-2
slice_bounds-read_all-start-2 c = (bounded _ c.span_of-span.ensures).ordered

pub slice_bounds-read_all-end-2 : goal.slice_bounds-read_all-end-2
slice_bounds-read_all-end-2 c = to-field _ c.span_of-span.ensures (length-widths _ c.field_widths-ws.ensures)

pub offset_bounds-v-from : goal.offset_bounds-v-from
offset_bounds-v-from c = from_field _ c.span_of-span.ensures

pub slice_bounds-read_all-count-3 : goal.slice_bounds-read_all-count-3
slice_bounds-read_all-count-3 c = (bounded _ c.span_of-span.ensures).ordered

pub slice_bounds-v-start : goal.slice_bounds-v-start
slice_bounds-v-start c = (bounded _ c.span_of-span.ensures).ordered

pub slice_bounds-v-end : goal.slice_bounds-v-end
slice_bounds-v-end c = (bounded _ c.span_of-span.ensures).within

pub read_all-requires : goal.read_all-requires
read_all-requires c =
    let e = c.span_of-span.ensures in
    let w = c.field_widths-ws.ensures in
    (room_in c.args.body e w c.args.details.now c.requires, count-in c.args.body e w _ refl)

pub returns : goal.returns
returns c = fields-found c.args.body c.args.details.now c.span_of-span.ensures c.field_widths-ws.ensures c.requires c.read_all.ensures
