-- `ledger_labels::start` meets its contract: the row of the places is computed. Assumes nothing.
use mathlib.Core.Path.{refl}
use mathlib.Core.List.{flatten}
use Rattle.ledger.specs.Report.{labels}
use Rattle.ledger_labels.specs.Labels.{label_start}
use Rattle.ledger_labels.proofs.Parts.{start-in}
use Rattle.ledger_labels.proofs.start.Goals as goal

pub returns : goal.returns
unfolding label_start labels flatten
returns c = start-in _ refl c.args.i c.requires
