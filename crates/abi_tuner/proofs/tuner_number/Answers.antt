-- `abi_tuner::tuner_number` meets its contract. Assumes nothing.
use Rattle.frame.specs.declared.Tuner.TheVariants.{None, Main, Spare}
use Rattle.abi_tuner.proofs.Tuners.{numbered}
use Rattle.abi_tuner.proofs.tuner_number.Goals as goal

pub returns-in-None : goal.returns-in-None
returns-in-None c = numbered None c.in-None.is

pub returns-in-Main : goal.returns-in-Main
returns-in-Main c = numbered Main c.in-Main.is

pub returns-in-Spare : goal.returns-in-Spare
returns-in-Spare c = numbered Spare c.in-Spare.is
