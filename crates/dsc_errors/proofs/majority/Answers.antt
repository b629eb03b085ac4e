-- `dsc_errors::majority` meets its contract: its windows begin at the differences. Assumes nothing.
use mathlib.Core.Path.{ap, ◌∙◌}
use mathlib.Core.List.{[], ◌∷◌, map}
use lib.Dec.{leb}
use borrow.Author.Rules.{rules}
use Rattle.dsc.specs.CheckTable.{differences}
use Rattle.lanes.specs.Lane.{set_in}
use Rattle.lanes.proofs.Windows.{Fit, window}
use Rattle.dsc_errors.proofs.Held.{set-windows}
use Rattle.dsc_errors.proofs.majority.Goals as goal

pub returns : goal.returns
unfolding differences
returns c =
    let x = c.args in
    let ws = x.a ∷ x.b ∷ x.c ∷ x.d ∷ x.e ∷ [] in
    let fit : Fit ws = (search rules, (search rules, (search rules, (search rules, (search rules, tt))))) in
    record { each = λ i h. ◌∙◌ {b = leb 9 (set_in i (map (window ws) differences))} (c.at_least_nine.ensures i) (ap (leb 9) (set-windows ws fit i h differences)) }
