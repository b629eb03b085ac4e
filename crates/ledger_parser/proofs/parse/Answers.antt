-- `ledger_parser::parse` meets its contract. Assumes nothing.
use Rattle.std.proofs.Common.{sym, ◌∙◌}
use Rattle.ledger_parser.proofs.Parsed.{parse-none, parse-impossible, parse-ledger}
use Rattle.ledger_parser.proofs.parse.Goals as goal

pub returns-in_default : goal.returns-in_default
returns-in_default c = c.not_report.ensures ∙ parse-none c.args.text.now c.in_default.ensures

pub returns-then-not-possible : goal.returns-then-not-possible
returns-then-not-possible c =
    c.not_report-then-not-possible.ensures
    ∙ parse-impossible c.args.text.now c.in-Some.numbers c.ledger_from-ledger.result c.in-Some.ensures c.ledger_from-ledger.ensures
    (sym c.possible.ensures ∙ c.if-not-possible.true)

pub returns : goal.returns
returns c =
    parse-ledger c.args.text.now c.in-Some.numbers c.ledger_from-ledger.result c.in-Some.ensures c.ledger_from-ledger.ensures
    (sym c.possible.ensures ∙ c.if-not-possible.false)
