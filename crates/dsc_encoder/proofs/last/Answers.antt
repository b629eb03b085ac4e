-- `dsc_encoder::last` meets its contract. Assumes nothing.
use mathlib.Core.Path.{sym}
use mathlib.Core.Bool.{false}
use Prim.Native.Nat.{◌-◌}
use native.Mathlib.Omega.{arith}
use lib.ListN.{drop, length-drop}
use lib.Seq.{get_or-drop}
use Rattle.dsc_bits.proofs.Steps.{filled_none, filled_next, filled-list}
use Rattle.dsc_encoder.proofs.last.Goals as goal

pub loop-n-init : goal.loop-n-init
loop-n-init c = filled_none (omega arith)

pub loop-n-preserved : goal.loop-n-preserved
loop-n-preserved c =
    filled_next c.loop-n.invariant (omega arith) (sym (get_or-drop 105 c.args.w.now c.loop-n.n false))

pub returns : goal.returns
returns c =
    let w = c.args.w.now in
    filled-list (drop 105 w) c.loop-n.invariant (omega arith) (omega (arith, length-drop 105 w))
