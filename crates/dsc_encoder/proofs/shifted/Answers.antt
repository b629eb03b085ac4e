-- `dsc_encoder::shifted` meets its contract. Assumes nothing.
use mathlib.Core.Path.{ap}
use mathlib.Core.List.{◌++◌}
use Prim.Native.Nat.{◌-◌}
use native.Mathlib.Omega.{arith}
use lib.ListN.{length, take, length-append}
use lib.Seq.{length-take-le}
use Rattle.gf2.specs.Polynomial.{zeros}
use Rattle.dsc_bits.proofs.Steps.{filled_none, filled_next, filled-list}
use Rattle.dsc_encoder.proofs.shifted.Goals as goal

pub loop-n-init : goal.loop-n-init
loop-n-init c = filled_none (ap length c.clear-d.ensures)

pub loop-n-preserved : goal.loop-n-preserved
loop-n-preserved c = filled_next c.loop-n.invariant (omega arith) c.shifted_bit.ensures

pub returns : goal.returns
returns c =
    let w = c.args.w.now in
    filled-list (take 105 w ++ zeros 82) c.loop-n.invariant (omega arith) (omega (arith, length-append (take 105 w) (zeros 82), length-take-le 105 w (omega arith)))
