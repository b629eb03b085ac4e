-- `ledger_parser::read_labelled` meets its contract. Assumes nothing.
use Rattle.std.proofs.Common.{sym, rules}
use Rattle.ledger_parser.proofs.Parsed.{line-found, line-no-feed}
use Rattle.ledger_parser.proofs.read_labelled.Goals as goal

pub returns : goal.returns
returns c =
    let starts = c.in_ok-behind.ensures in
    line-found c.args.label.now c.args.text.now starts.0 c.in_ok-number.number (rw (← starts.1) (sym c.in_ok-number.ensures)) (rw (← starts.1) (search rules))

pub returns-then-not-is_ended : goal.returns-then-not-is_ended
returns-then-not-is_ended c =
    let starts = c.in_ok-behind.ensures in
    line-no-feed c.args.label.now c.args.text.now starts.0 c.in_ok-number.number (rw (← starts.1) (sym c.in_ok-number.ensures)) (rw (← starts.1) (search rules))
