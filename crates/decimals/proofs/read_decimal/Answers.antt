-- `decimals::read_decimal` meets its contract. Assumes nothing.
use Rattle.std.proofs.Common.{◌∙◌}
use Rattle.decimals.proofs.Readings.{decimal-none}
use Rattle.decimals.proofs.read_decimal.Goals as goal

pub returns-in_err-first : goal.returns-in_err-first
returns-in_err-first c = c.from_residual.ensures ∙ decimal-none c.args.text.now c.in_err-first.ensures.cases
