-- The labels of a report's lines, end to end. Assumes nothing.
use mathlib.Core.List.{List, flatten}
use Rattle.std.specs.Prelude.{ℕ, length, take}
use Rattle.ledger.specs.Report.{labels}

unfoldable pub label_text : List ℕ
label_text = flatten labels

-- where label i begins; that of 12 is where the last one ends
unfoldable pub label_start : ℕ → ℕ
label_start i = length (flatten (take i labels))
