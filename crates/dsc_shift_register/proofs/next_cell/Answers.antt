-- `dsc_shift_register::next_cell` meets its contract. Assumes nothing.
use mathlib.Core.Path.{◌∙◌}
use Rattle.dsc_bits.specs.Words.{at}
use Rattle.dsc_bits.proofs.Steps.{ne-xor}
use Rattle.dsc_shift_register.proofs.Turns.{cell-added, cell-moved}
use Rattle.dsc_shift_register.proofs.next_cell.Goals as goal

pub returns-then-leaves : goal.returns-then-leaves
returns-then-leaves c =
    let a = c.args in
    ne-xor (at a.g.now a.j) c.below-moved.result ∙ cell-added a.g.now a.j a.leaves c.if-leaves.true c.below-moved.ensures

pub returns-else-leaves : goal.returns-else-leaves
returns-else-leaves c =
    let a = c.args in
    cell-moved a.g.now a.j a.leaves c.if-leaves.false c.below-moved.ensures
