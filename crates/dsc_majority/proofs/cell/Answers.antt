-- `dsc_majority::cell` meets its contract. Assumes nothing.
use mathlib.Core.Path.{sym}
use Prim.Native.Nat.{◌-◌}
use native.Mathlib.Omega.{arith}
use Rattle.dsc.proofs.CheckRows.{coefficient-at, coefficient-out}
use Rattle.dsc_majority.proofs.cell.Goals as goal

pub returns-then-p-lt82 : goal.returns-then-p-lt82
returns-then-p-lt82 c =
    let a = c.args in
    sym (coefficient-at a.s.now a.p (81 - a.p) (omega arith))

pub returns-else-p-lt82 : goal.returns-else-p-lt82
returns-else-p-lt82 c =
    let a = c.args in
    sym (coefficient-out a.s.now a.p (omega arith))
