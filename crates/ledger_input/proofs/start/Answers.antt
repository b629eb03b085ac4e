-- `ledger_input::start` meets its contract. Assumes nothing.
use mathlib.Core.Path.{ap}
use Rattle.ledger.specs.declared.Ledger.{Ledger}
use Rattle.ledger_input.proofs.start.Goals as goal

pub returns : goal.returns
returns c = ap (λ (l : Ledger). record { ledger = l; wanted = 65520 }) c.fresh.ensures
