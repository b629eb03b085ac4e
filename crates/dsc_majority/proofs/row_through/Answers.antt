-- `dsc_majority::row_through` meets its contract. Assumes nothing.
use native.Mathlib.Omega.{arith}
use Rattle.dsc.proofs.CheckRows.{difference-lt}
use Rattle.dsc_majority.proofs.row_through.Goals as goal

pub returns-then-q-p : goal.returns-then-q-p
returns-then-q-p c =
    let a = c.args in
    (omega (arith, difference-lt a.i (omega arith)), omega arith)
