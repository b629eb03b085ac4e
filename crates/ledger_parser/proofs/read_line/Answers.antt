-- `ledger_parser::read_line` meets its contract. Assumes nothing.
use mathlib.Core.Path.{ap, ◌∙◌}
use mathlib.Core.List.{List}
use Prim.Native.Nat.{ℕ, ◌≤◌}
use native.Mathlib.Omega.{arith}
use lib.ListN.{length}
use Rattle.ledger.specs.Report.{line_at}
use Rattle.ledger_labels.proofs.Parts.{length-text, label-order, label_inside, label-part}
use Rattle.ledger_parser.proofs.read_line.Goals as goal
use Rattle.ledger_parser.proofs.read_line.Goals.{After-start-end}

-- the label stands within the labels' text
bounds : (c : After-start-end) → (c.start-start.result ≤ c.start-end.result) × (c.start-end.result ≤ length c.args.all.now)
bounds c =
    let inside = label_inside c.requires.i_bound c.start-start.ensures c.start-end.ensures in
    (label-order c.requires.i_bound c.start-start.ensures c.start-end.ensures, omega (arith, ap length c.requires.all_value ∙ length-text))

pub slice_bounds-read_labelled-count : goal.slice_bounds-read_labelled-count
slice_bounds-read_labelled-count c = (bounds (goal.at.slice_bounds-read_labelled-count c).After-start-end).0

pub slice_bounds-read_labelled-start : goal.slice_bounds-read_labelled-start
slice_bounds-read_labelled-start c = let b = bounds (goal.at.slice_bounds-read_labelled-start c).After-start-end in omega arith

pub slice_bounds-read_labelled-end : goal.slice_bounds-read_labelled-end
slice_bounds-read_labelled-end c = let b = bounds (goal.at.slice_bounds-read_labelled-end c).After-start-end in omega arith

pub returns : goal.returns
returns c =
    c.read_labelled.ensures
    ∙ ap (λ (label : List ℕ). line_at label c.args.text.now)
    (label-part c.requires.i_bound c.start-start.ensures c.start-end.ensures c.args.all.now c.requires.all_value)
