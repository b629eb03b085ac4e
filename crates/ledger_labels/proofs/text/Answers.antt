-- `ledger_labels::text` meets its contract: the labels, end to end, are computed. Assumes nothing.
use mathlib.Core.Path.{refl}
use mathlib.Core.List.{flatten}
use Rattle.ledger.specs.Report.{labels}
use Rattle.ledger_labels.specs.Labels.{label_text}
use Rattle.ledger_labels.proofs.text.Goals as goal

pub returns : goal.returns
unfolding label_text labels flatten
returns c = refl
