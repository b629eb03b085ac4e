-- `segments::read_fields` meets its contract. Assumes nothing.
use Rattle.std.proofs.Common.{◌≡◌, ◌∙◌, ℕ, Bool, cond, ◌+◌, ◌*◌, ◌≤◌, ap, ap₂, refl, arith, length, get_or}
use Rattle.bits.specs.declared.Segment.TheVariants.{Field}
use Rattle.bits.specs.Bits.{bits}
use Rattle.bits.specs.Field.{field_at, within}
use Rattle.bits.specs.Layout.{sum}
use Rattle.bits.specs.Segment.{width, holds}
use Rattle.bits.proofs.Field.{within-room}
use Rattle.bit_layouts.specs.Kind.{segment_of}
use Rattle.segments.specs.Step.{stored}
use Rattle.segments.proofs.Turns.{segment_at, place_next, place_room, read-turn, read-room, read-end, fixed-turn, fixed-end}
use Rattle.segments.proofs.read_fields.Goals as goal

pub loop-segment-init : goal.loop-segment-init
unfolding sum
loop-segment-init c =
    record { place = refl; long = refl; values = record { room = omega (arith, c.requires.1); values = refl }; fixed = refl }

pub keep-i-requires : goal.keep-i-requires
keep-i-requires c =
    let l = c.args.layout.now in
    read-room (segment_at l c.loop-segment.segment-index (Field 0) (omega arith)) _ c.loop-segment.out _ c.loop-segment.i c.loop-segment.invariant.values

pub overflow_add-at : goal.overflow_add-at
overflow_add-at c =
    let a = segment_at c.args.layout.now c.loop-segment.segment-index (Field 0) (omega arith) in
    omega (arith, c.width-width.ensures, place_room c.loop-segment.at a c.loop-segment.invariant.place, c.requires.0.short)

pub loop-segment-preserved : goal.loop-segment-preserved
loop-segment-preserved c =
    let l = c.args.layout.now in
    let s = c.args.s.now in
    let j = c.loop-segment.segment-index in
    let at = c.loop-segment.at in
    let g = get_or l j (Field 0) in
    let a = segment_at l j (Field 0) (omega arith) in
    let room : at + width g ≤ 8 * length s = omega (arith, place_room at a c.loop-segment.invariant.place, c.requires.0.room) in
    let narrow : width g ≤ 64 = omega (arith, a.wide, c.requires.0.narrow j) in
    let v : c.get-v.result ≡ field_at s at (width g) =
    c.get-v.ensures
    ∙ ap (λ (w : ℕ). cond (within (length s) at w) (field_at s at w) 0) c.width-width.ensures
    ∙ ap (λ (t : Bool). cond t (field_at s at (width g)) 0) (within-room (length s) at (width g) narrow room) in
    let kind : segment_of c.kind_of.result c.width-width.result ≡ g = ap (segment_of c.kind_of.result) c.width-width.ensures ∙ c.kind_of.ensures in
    rw c.width-width.ensures
    record {
      place = place_next at a c.loop-segment.invariant.place;
      long = c.keep-i.auto.out ∙ c.loop-segment.invariant.long;
      values =
          read-turn a _ c.loop-segment.out _ (bits s) at c.loop-segment.i _ c.keep-i.ensures.place
          (c.keep-i.ensures.stored ∙ ap (λ (x : ℕ). stored g x c.loop-segment.i c.loop-segment.out) v) c.loop-segment.invariant.values;
      fixed =
          fixed-turn a (bits s) at _ c.loop-segment.fixed _ c.segment_holds-fixed.result (c.segment_holds-fixed.ensures ∙ ap₂ holds kind v) refl c.loop-segment.invariant.fixed;
    }

pub returns : goal.returns
returns c =
    let l = c.args.layout.now in
    let e : c.loop-segment.segment-index ≡ length l = omega arith in
    record {
      fixed = fixed-end l _ c.loop-segment.segment-index _ c.loop-segment.fixed e c.loop-segment.invariant.fixed;
      values = read-end l _ c.loop-segment.out _ c.loop-segment.i c.loop-segment.segment-index e c.loop-segment.invariant.values;
    }
