-- `ledger_printer::put_lines` meets its contract. Assumes nothing.
use native.Mathlib.Omega.{arith}
use Rattle.ledger.proofs.Reports.{twelve-labels}
use Rattle.ledger_printer.proofs.Printed.{lined-length, lined-room, lined-next, lined-all}
use Rattle.ledger_printer.proofs.put_lines.Goals as goal

pub put_line-at-requires-clause-number_in_bounds : goal.put_line-at-requires-clause-number_in_bounds
put_line-at-requires-clause-number_in_bounds c =
    lined-room c.loop-i.invariant (omega (arith, twelve-labels)) (omega arith) c.requires

pub loop-i-preserved : goal.loop-i-preserved
loop-i-preserved c = lined-next c.loop-i.invariant _ _ (omega (arith, twelve-labels)) (omega arith) c.put_line-at.ensures

pub shape_of-out : goal.shape_of-out
shape_of-out c = lined-length c.loop-i.invariant

pub returns : goal.returns
returns c = lined-all c.loop-i.invariant (omega (arith, twelve-labels)) c.requires
