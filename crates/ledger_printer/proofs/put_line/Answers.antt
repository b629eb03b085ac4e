-- `ledger_printer::put_line` meets its contract. Assumes nothing.
use mathlib.Core.Path.{◌≡◌, ap, subst, ◌∙◌}
use mathlib.Core.List.{List, []}
use Prim.Native.Nat.{ℕ, ◌-◌, ◌≤◌}
use native.Mathlib.Omega.{arith}
use lib.ListN.{length, get_or, take, drop}
use Rattle.decimals.specs.Decimal.{decimal}
use Rattle.decimals.specs.Put.{Put}
use Rattle.decimals.proofs.Stores.{put_then}
use Rattle.ledger.specs.Report.{labels}
use Rattle.ledger.proofs.Reports.{length-line}
use Rattle.ledger_labels.proofs.Parts.{length-text, label-order, label_inside, label-part}
use Rattle.ledger_printer.proofs.put_line.Goals as goal
use Rattle.ledger_printer.proofs.put_line.Goals.{After-start-end}

-- the label stands within the text
bounds : (c : After-start-end) → (c.start-start.result ≤ c.start-end.result) × (c.start-end.result ≤ length c.args.text.now)
bounds c =
    let inside = label_inside c.requires.i_bound c.start-start.ensures c.start-end.ensures in
    (label-order c.requires.i_bound c.start-start.ensures c.start-end.ensures, omega (arith, ap length c.requires.text_value ∙ length-text))

part : (c : After-start-end)
    → take (c.start-end.result - c.start-start.result) (drop c.start-start.result c.args.text.now)
    ≡ get_or labels c.args.i []
part c =
    label-part c.requires.i_bound c.start-start.ensures c.start-end.ensures c.args.text.now c.requires.text_value

pub slice_bounds-put_text-count : goal.slice_bounds-put_text-count
slice_bounds-put_text-count c = (bounds (goal.at.slice_bounds-put_text-count c).After-start-end).0

pub slice_bounds-put_text-start : goal.slice_bounds-put_text-start
slice_bounds-put_text-start c = let b = bounds (goal.at.slice_bounds-put_text-start c).After-start-end in omega arith

pub slice_bounds-put_text-end : goal.slice_bounds-put_text-end
slice_bounds-put_text-end c = let b = bounds (goal.at.slice_bounds-put_text-end c).After-start-end in omega arith

pub put_text-place-requires : goal.put_text-place-requires
put_text-place-requires c =
    let a = c.args in
    omega (arith, ap length (part (goal.at.put_text-place-requires c).After-start-end), length-line (get_or labels a.i []) a.number)

pub put_decimal-place-requires : goal.put_decimal-place-requires
put_decimal-place-requires c =
    let a = c.args in
    omega (arith, c.put_text-place.ensures.place, ap length (part (goal.at.put_decimal-place-requires c).After-start-end), length-line (get_or labels a.i []) a.number)

pub put_byte-requires : goal.put_byte-requires
put_byte-requires c =
    let a = c.args in
    omega (arith, c.put_decimal-place.ensures.place, c.put_text-place.ensures.place, ap length (part (goal.at.put_byte-requires c).After-start-end), length-line (get_or labels a.i []) a.number)

pub returns : goal.returns
returns c =
    let a = c.args in
    let stored : Put a.out.now a.at (get_or labels a.i []) c.put_text-place.new.out c.put_text-place.result =
    subst (λ (s : List ℕ). Put a.out.now a.at s c.put_text-place.new.out c.put_text-place.result) (part (goal.at.returns c).After-start-end) c.put_text-place.ensures in
    put_then (get_or labels a.i []) _ stored (put_then (decimal a.number) _ c.put_decimal-place.ensures c.put_byte.ensures)
