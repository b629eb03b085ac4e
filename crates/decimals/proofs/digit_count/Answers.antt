-- `decimals::digit_count` meets its contract. Assumes nothing.
use Rattle.std.proofs.Common.{arith}
use Rattle.decimals.proofs.Decimals.{count-power, length-none}
use Rattle.decimals.proofs.digit_count.Goals as goal

pub returns-in-Some : goal.returns-in-Some
returns-in-Some c =
    let e = c.in-Some.ensures in count-power c.in-Some.power _ c.args.n _ (omega arith) e.power_le e.next_power_gt (omega arith) (omega arith)

pub returns-in-None : goal.returns-in-None
returns-in-None c = length-none (omega (arith, c.in-None.ensures.none))
