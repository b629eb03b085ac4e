use Rattle.std.proofs.Common.{refl, arith}
use Rattle.header.specs.Fields.{run}
use Rattle.header_arrays.proofs.Copies.{run-turn, place-next}
use Rattle.header_arrays.proofs.take_run.Goals as goal

pub loop-value-init : goal.loop-value-init
unfolding run
loop-value-init c = record { place = omega arith; taken = refl }

pub loop-value-preserved : goal.loop-value-preserved
loop-value-preserved c =
    let a = c.args in
    let i = c.loop-value.value-index in
    record {
      place = place-next a.k a.d i c.loop-value.at c.loop-value.invariant.place;
      taken = rw (c.loop-value.invariant.taken, c.loop-value.invariant.place) (run-turn a.v.now a.out.now a.k a.d i (omega arith));
    }
