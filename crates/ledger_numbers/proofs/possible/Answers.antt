-- `ledger_numbers::possible` meets its contract. Assumes nothing.
use mathlib.Core.Path.{sym}
use native.Mathlib.Omega.{arith}
use Rattle.ledger.proofs.Possible.{by-repaired, impossible}
use Rattle.ledger_numbers.proofs.possible.Goals as goal

pub returns-then-total-gt4000000 : goal.returns-then-total-gt4000000
returns-then-total-gt4000000 c =
    sym (impossible c.args.ledger (λ k. omega (arith, c.limited_sum-total.ensures)))

pub returns-then-ledger-total : goal.returns-then-ledger-total
returns-then-ledger-total c =
    sym (impossible c.args.ledger (λ k. omega (arith, c.limited_sum-total.ensures)))

pub returns-then-ledger-total-2 : goal.returns-then-ledger-total-2
returns-then-ledger-total-2 c =
    sym (impossible c.args.ledger (λ k. omega (arith, c.limited_sum-total.ensures)))

pub returns : goal.returns
returns c =
    by-repaired c.args.ledger (omega (arith, c.limited_sum-total.ensures)) (omega (arith, c.limited_sum-total.ensures))
