-- `dsc_majority::failure_count` meets its contract: the count so far and that of the rows to come make the whole. Assumes nothing.
use mathlib.Core.Path.{◌≡◌, ◌∙◌, sym, ap}
use Prim.Native.Nat.{◌-◌, ◌+◌, ◌%◌}
use native.Mathlib.Omega.{arith}
use lib.ListN.{get_or}
use Rattle.bits.specs.Bits.{digit}
use Rattle.dsc.specs.CheckTable.{differences, rows_of, syndrome}
use Rattle.dsc.proofs.TableRows.{length-rows, rows_at}
use Rattle.dsc_bits.proofs.Steps.{count_next, count-done}
use Rattle.dsc_shift_register.specs.Register.{decided_place}
use Rattle.dsc_majority.proofs.failure_count.Goals as goal

pub loop-i-init : goal.loop-i-init
loop-i-init c = (omega arith, omega arith, omega arith)

pub loop-i-preserved : goal.loop-i-preserved
loop-i-preserved c =
    let s = c.args.s.now in
    let d = get_or differences c.loop-i.i 0 in
    let q : c.row_through.result ≡ (decided_place + d) % 273 = omega (arith, c.row_through.ensures.0) in (
      omega arith,
      omega (arith, c.one-n.ensures.1),
      count_next (syndrome s) (rows_of decided_place) c.loop-i.i c.loop-i.n c.one-n.result _ (omega (arith, length-rows decided_place))
          (c.one-n.ensures.0
          ∙ ap digit (c.check_sum.ensures ∙ ap (syndrome s) (q ∙ sym (rows_at decided_place c.loop-i.i (omega arith)))))
          c.loop-i.invariant.2,
    )

pub returns : goal.returns
returns c =
    let s = c.args.s.now in
    count-done (syndrome s) (rows_of decided_place) c.loop-i.i c.loop-i.n _ (omega (arith, length-rows decided_place)) c.loop-i.invariant.2
