-- `dsc_errors::wrap` meets its contract: it is a window. Assumes nothing.
use mathlib.Core.List.{[], ◌∷◌}
use borrow.Author.Rules.{rules}
use Rattle.lanes.proofs.Windows.{lane-window}
use Rattle.dsc_errors.proofs.wrap.Goals as goal

pub returns : goal.returns
returns c =
    record { each = λ i h. lane-window (c.args.x ∷ c.args.y ∷ []) (search rules, (search rules, tt)) i h 47 }
