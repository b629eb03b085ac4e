use Rattle.std.proofs.Common.{◌≡◌, ℕ, List, Bool, ◌∙◌, ◌++◌, ◌+◌, ◌<◌, [], ◌∷◌, ap₂, sym, refl, arith, length, length-append, get_or}
use Rattle.std.proofs.lemmas.Slice.Zip.{zip_turn}
use Rattle.std.proofs.Math.Seq.{paste}
use Rattle.bits.specs.Layout.{pack, sum}
use Rattle.bits.specs.Bits.{bits, bits_of}
use Rattle.bits.proofs.Layouts.{pack-next, sum-take, sum-next}
use Rattle.bits.proofs.Bits.{length-bits}
use Rattle.bit_layouts.proofs.write_all.Goals as goal
use Rattle.bit_layouts.proofs.write_all.Goals.{In-Some}

-- the width and the value of this turn stand in their lists at the number of turns so far
turn : (c : In-Some)
    → (length c.loop-width.yielded < length c.args.ws.now) × (c.in-Some.width.now ≡ get_or c.args.ws.now (length c.loop-width.yielded) 0)
    × (c.in-Some.value.now ≡ get_or c.args.vs.now (length c.loop-width.yielded) 0)
turn c =
    let z = zip_turn c.args.ws.now c.args.vs.now c.loop-width.yielded c.into_iter-width-iterator.result c.loop-width.width-iterator c.next.new.self c.next.result (cc) (cc) c.loop-width.yielded_by (c.in-Some.width, c.in-Some.value) c.in-Some.is c.next.ensures.steps in
    (z.0, z.2 0, z.3 0)

pub loop-width-init : goal.loop-width-init
unfolding pack sum
loop-width-init c = record { place = refl; long = refl; written = refl }

pub write_field-requires : goal.write_field-requires
write_field-requires c =
    let ws = c.args.ws.now in
    let j = length c.loop-width.yielded in
    let t = turn (goal.at.write_field-requires c).In-Some in
    let n = sum-next ws j t.0 in
    (omega (arith, t.1, c.requires.0.narrow j), omega (arith, t.1, n, c.requires.0.room))

pub overflow_add-at : goal.overflow_add-at
overflow_add-at c =
    let t = turn (goal.at.overflow_add-at c).In-Some in
    omega (arith, t.1, sum-next c.args.ws.now (length c.loop-width.yielded) t.0, c.requires.0.short)

pub loop-width-preserved : goal.loop-width-preserved
loop-width-preserved c =
    let ws = c.args.ws.now in
    let vs = c.args.vs.now in
    let j = length c.loop-width.yielded in
    let t = turn (goal.at.loop-width-preserved c).In-Some in
    let n : length (c.loop-width.yielded ++ (c.in-Some.width, c.in-Some.value) ∷ []) ≡ j + 1 = simp length-append in
    rw n
    record {
      place = ap₂ (◌+◌) c.loop-width.invariant.place t.1 ∙ sym (sum-take ws j t.0);
      long = c.write_field.auto.s ∙ c.loop-width.invariant.long;
      written =
          c.write_field.ensures ∙ ap₂ (λ (w v : ℕ). paste (bits c.loop-width.buf) c.loop-width.at (bits_of w v) w) t.1 t.2
          ∙ ap₂ (λ (o : List Bool) (k : ℕ). paste o k (bits_of (get_or ws j 0) (get_or vs j 0)) (get_or ws j 0)) c.loop-width.invariant.written c.loop-width.invariant.place
          ∙ pack-next ws vs (bits c.args.buf.now) j t.0 c.requires.1 (omega (arith, length-bits c.args.buf.now, c.requires.0.room));
    }
