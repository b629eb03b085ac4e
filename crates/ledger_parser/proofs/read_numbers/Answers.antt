-- `ledger_parser::read_numbers` meets its contract. Assumes nothing.
use Rattle.std.proofs.Common.{ℕ, ◌+◌, List, set, sym, subst, ◌∙◌, arith, rules}
use Rattle.std.proofs.lemmas.List.{take_rest}
use Rattle.ledger.proofs.Reports.{twelve-labels}
use Rattle.ledger.specs.Report.{labels}
use Rattle.ledger_parser.proofs.Parsed.{Numbered, numbered-none, numbered-stop, line-inside, numbered_next, numbered-all}
use Rattle.ledger_parser.proofs.read_numbers.Goals as goal

pub loop-i-init : goal.loop-i-init
loop-i-init c = numbered-none labels c.args.text.now _ (omega (arith, twelve-labels))

pub returns-in_err-line : goal.returns-in_err-line
returns-in_err-line c = c.from_residual.ensures ∙ numbered-stop c.loop-i.invariant (omega (arith, twelve-labels)) c.in_err-line.ensures

pub slice_bounds-rest-count : goal.slice_bounds-rest-count
slice_bounds-rest-count c = line-inside c.loop-i.invariant c.in_ok-line.line c.in_ok-line.ensures

pub slice_bounds-rest-start : goal.slice_bounds-rest-start
slice_bounds-rest-start c = let h = line-inside c.loop-i.invariant c.in_ok-line.line c.in_ok-line.ensures in omega arith

pub loop-i-preserved : goal.loop-i-preserved
loop-i-preserved c =
    subst (λ (rest : List ℕ). Numbered labels c.args.text.now (set c.loop-i.numbers c.loop-i.i c.in_ok-line.line.value) rest (c.loop-i.i + 1))
    (sym (take_rest c.loop-i.rest.now c.in_ok-line.line.bytes))
    (numbered_next c.loop-i.invariant c.in_ok-line.line (omega (arith, twelve-labels)) c.in_ok-line.ensures)

pub returns : goal.returns
returns c = c.then_some.ensures ∙ numbered-all c.loop-i.invariant _ (search rules) (omega (arith, twelve-labels))
