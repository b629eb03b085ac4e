-- `segments::write_fields` meets its contract. Assumes nothing.
use Rattle.std.proofs.Common.{◌≡◌, ◌∙◌, ℕ, List, Bool, ◌++◌, ◌+◌, ◌*◌, ◌≤◌, ap, ap₂, sym, refl, arith, length, get_or, take, drop}
use Rattle.std.proofs.Math.Seq.{take-length}
use Rattle.bits.specs.declared.Segment.TheVariants.{Field}
use Rattle.bits.specs.Bits.{bits}
use Rattle.bits.specs.Field.{put_of}
use Rattle.bits.specs.Layout.{sum}
use Rattle.bits.specs.Segment.{width, widths}
use Rattle.bits.proofs.Segments.{length-widths}
use Rattle.segments.proofs.Turns.{segment_at, place_next, place_room, place-of, place-few, write-room, write-turn, write-end, put-turn}
use Rattle.segments.proofs.write_fields.Goals as goal

pub loop-j-init : goal.loop-j-init
unfolding sum
loop-j-init c =
    record { place = refl; long = refl; row = record { count = omega (arith, c.requires.1); row = refl }; few = omega arith; after = refl }

pub segment_value-requires : goal.segment_value-requires
segment_value-requires c =
    let a = segment_at c.args.layout.now c.loop-j.j (Field 0) (omega arith) in
    (omega (arith, a.wide, c.requires.0.narrow c.loop-j.j), (write-room a _ _ c.args.vs.now c.loop-j.i c.loop-j.invariant.row).1)

pub next_place-i-requires : goal.next_place-i-requires
next_place-i-requires c =
    let a = segment_at c.args.layout.now c.loop-j.j (Field 0) (omega arith) in
    omega (arith, (write-room a _ _ c.args.vs.now c.loop-j.i c.loop-j.invariant.row).0, c.requires.2)

pub overflow_add-at : goal.overflow_add-at
overflow_add-at c =
    let a = segment_at c.args.layout.now c.loop-j.j (Field 0) (omega arith) in
    omega (arith, c.width-width.ensures, place_room c.loop-j.at a c.loop-j.invariant.place, c.requires.0.short)

pub loop-j-preserved : goal.loop-j-preserved
loop-j-preserved c =
    let l = c.args.layout.now in
    let j = c.loop-j.j in
    let at = c.loop-j.at in
    let g = get_or l j (Field 0) in
    let a = segment_at l j (Field 0) (omega arith) in
    let room : at + width g ≤ 8 * length c.args.buf.now = omega (arith, place_room at a c.loop-j.invariant.place, c.requires.0.room) in
    let narrow : width g ≤ 64 = omega (arith, a.wide, c.requires.0.narrow j) in
    let put = c.put.ensures ∙ ap (λ (w : ℕ). put_of c.loop-j.buf at w c.segment_value.result) c.width-width.ensures in
    let t = put-turn c.loop-j.buf _ c.args.buf.now at (width g) c.segment_value.result c.loop-j.invariant.long room narrow put c.loop-j.invariant.after in
    let next = place-of g c.loop-j.i _ c.next_place-i.result c.next_place-i.ensures (omega arith) in
    rw c.width-width.ensures
    record {
      place = place_next at a c.loop-j.invariant.place;
      long = c.put.auto.s ∙ c.loop-j.invariant.long;
      row =
          write-turn a _ (take at (bits c.loop-j.buf)) _ c.args.vs.now c.segment_value.result c.loop-j.i _ c.segment_value.ensures next t.0 c.loop-j.invariant.row;
      few = omega (arith, next, place-few g c.loop-j.i, c.loop-j.invariant.few);
      after = t.1;
    }

pub returns : goal.returns
returns c =
    let l = c.args.layout.now in
    let e : c.loop-j.j ≡ length l = omega arith in
    let w = write-end l _ _ c.args.vs.now c.loop-j.i c.loop-j.j e c.loop-j.invariant.row in
    let n : c.loop-j.at ≡ sum (widths l) =
    c.loop-j.invariant.place ∙ ap (λ (k : ℕ). sum (take k (widths l))) (e ∙ sym (length-widths l)) ∙ ap sum (take-length (widths l)) in
    c.loop-j.invariant.after ∙ ap₂ (λ (x : List Bool) (k : ℕ). x ++ drop k (bits c.args.buf.now)) (sym w) n
