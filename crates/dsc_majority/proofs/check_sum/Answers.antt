-- `dsc_majority::check_sum` meets its contract: the sum so far and that of the places to come make the row's. Assumes nothing.
use mathlib.Core.Path.{refl, sym, ap, ◌∙◌}
use Prim.Native.Nat.{◌-◌}
use native.Mathlib.Omega.{arith}
use Rattle.dsc.specs.CheckTable.{row, coefficient, syndrome}
use Rattle.dsc.proofs.TableRows.{length-row, row-at}
use Rattle.dsc_bits.proofs.Steps.{sum-next, sum_done}
use Rattle.dsc_majority.proofs.check_sum.Goals as goal

pub loop-i-init : goal.loop-i-init
loop-i-init c = (omega arith, refl)

pub loop-i-preserved : goal.loop-i-preserved
loop-i-preserved c =
    let s = c.args.s.now in
    let q = c.args.q in (
      omega arith,
      sum-next (coefficient s) (row q) c.loop-i.i c.loop-i.sum c.cell-sum.result (syndrome s q) (omega (arith, length-row q))
          (c.cell-sum.ensures ∙ ap (coefficient s) (c.place.ensures ∙ sym (row-at q c.loop-i.i (omega arith))))
          c.loop-i.invariant.1,
    )

pub returns : goal.returns
returns c =
    let s = c.args.s.now in
    let q = c.args.q in
    sum_done (coefficient s) (row q) c.loop-i.i c.loop-i.sum (syndrome s q) (omega (arith, length-row q)) c.loop-i.invariant.1
