-- `abi_tuner::tuner_of` meets its contract. Assumes nothing.
use Rattle.abi_tuner.proofs.Tuners.{main-named, spare-named, none_named}
use Rattle.abi_tuner.proofs.tuner_of.Goals as goal

pub returns-then-number-eq1 : goal.returns-then-number-eq1
returns-then-number-eq1 c = main-named _ c.if-number-eq1.true

pub returns-then-number-eq2 : goal.returns-then-number-eq2
returns-then-number-eq2 c = spare-named _ c.if-number-eq1.false c.if-number-eq2.true

pub returns : goal.returns
returns c = none_named _ c.if-number-eq1.false c.if-number-eq2.false
