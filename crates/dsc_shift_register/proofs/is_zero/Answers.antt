-- `dsc_shift_register::is_zero` meets its contract: the cells passed hold 0. Assumes nothing.
use mathlib.Core.Path.{refl}
use Prim.Native.Nat.{◌-◌}
use native.Mathlib.Omega.{arith}
use Rattle.dsc.specs.Code.{all_zero}
use Rattle.dsc_shift_register.proofs.Turns.{zero-next, zero-not, zero-done}
use Rattle.dsc_shift_register.proofs.is_zero.Goals as goal

pub loop-j-init : goal.loop-j-init
loop-j-init c = (omega arith, refl)

pub returns-then-s-j : goal.returns-then-s-j
returns-then-s-j c =
    let s = c.args.s.now in
    zero-not s c.loop-j.j (all_zero s) (omega arith) c.if-s-j.true c.loop-j.invariant.1

pub loop-j-preserved : goal.loop-j-preserved
loop-j-preserved c =
    let s = c.args.s.now in
    (omega arith, zero-next s c.loop-j.j (all_zero s) (omega arith) c.if-s-j.false c.loop-j.invariant.1)

pub returns : goal.returns
returns c =
    let s = c.args.s.now in
    zero-done s c.loop-j.j (all_zero s) (omega arith) c.loop-j.invariant.1
