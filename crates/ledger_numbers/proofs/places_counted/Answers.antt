-- `ledger_numbers::places_counted` meets its contract. Assumes nothing.
use mathlib.Core.Path.{sym, ap}
use mathlib.Core.Bool.{Bool, cond}
use borrow.Author.Tests.{eq-eqb, ne_eqb}
use Rattle.ledger_numbers.proofs.places_counted.Goals as goal

pub returns-then-verdict-ne0 : goal.returns-then-verdict-ne0
returns-then-verdict-ne0 c =
    let v = c.args.verdict in
    sym (ap (λ (t : Bool). cond t v.repaired 0) (ne_eqb v.number 0 c.if-verdict-ne0.true))

pub returns : goal.returns
returns c =
    let v = c.args.verdict in
    sym (ap (λ (t : Bool). cond t v.repaired 0) (eq-eqb v.number 0 c.if-verdict-ne0.false))
