-- `dsc_bits::distance` meets its contract: the count so far and that of the bits to come make the whole. Assumes nothing.
use Prim.Native.Nat.{◌-◌}
use native.Mathlib.Omega.{arith}
use Rattle.dsc_bits.proofs.Steps.{dist-next, dist-done}
use Rattle.dsc_bits.proofs.distance.Goals as goal

pub loop-i-init : goal.loop-i-init
loop-i-init c = (omega arith, omega arith, omega arith)

pub loop-i-preserved : goal.loop-i-preserved
loop-i-preserved c =
    let u = c.args.u.now in
    let w = c.args.w.now in (
      omega arith,
      omega (arith, c.one-n.ensures.1),
      dist-next u w c.loop-i.i c.loop-i.n c.one-n.result _ (omega arith) (omega arith) c.one-n.ensures.0 c.loop-i.invariant.2,
    )

pub returns : goal.returns
returns c =
    let u = c.args.u.now in
    let w = c.args.w.now in
    dist-done u w c.loop-i.i c.loop-i.n _ (omega arith) (omega arith) c.loop-i.invariant.2
