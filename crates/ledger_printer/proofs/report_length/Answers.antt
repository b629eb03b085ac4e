-- `ledger_printer::report_length` meets its contract. Assumes nothing.
use mathlib.Core.Path.{sym, ap, ◌∙◌}
use mathlib.Core.List.{List}
use Prim.Native.Nat.{ℕ}
use lib.ListN.{length}
use Rattle.ledger.specs.Report.{labels, labelled_lines, ledger_report}
use Rattle.ledger.proofs.Reports.{length-impossible, length-possible}
use Rattle.ledger_printer.proofs.report_length.Goals as goal

pub returns-then-not-possible : goal.returns-then-not-possible
returns-then-not-possible c =
    let l = c.args.ledger in
    let e = length-impossible l (sym c.possible.ensures ∙ c.if-not-possible.true) in
    λ i. record { number = sym e.0 i; bytes = sym e.1 i }

pub returns : goal.returns
unfolding ledger_report
returns c =
    let e = length-possible c.args.ledger (sym c.possible.ensures ∙ c.if-not-possible.false) in
    let size = c.lines_length.ensures ∙ ap (λ (ns : List ℕ). length (labelled_lines labels ns)) c.numbers_of-numbers.ensures ∙ sym e.1 in
    λ i. record { number = sym e.0 i; bytes = size i }
