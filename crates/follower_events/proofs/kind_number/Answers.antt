-- `follower_events::kind_number` meets its contract. `search` finds this too; the file is here so that another number is refused by the two that differ.
-- Assumes nothing.
use mathlib.Core.Path.{sym, ap}
use Rattle.follower_events.specs.Events.{kind_number}
use Rattle.follower_events.proofs.kind_number.Goals as goal

pub returns-in-Real : goal.returns-in-Real
returns-in-Real c = ap kind_number (sym c.in-Real.is)

pub returns-in-Test : goal.returns-in-Test
returns-in-Test c = ap kind_number (sym c.in-Test.is)

pub returns-in-Safety : goal.returns-in-Safety
returns-in-Safety c = ap kind_number (sym c.in-Safety.is)

pub returns-in-SafetyTest : goal.returns-in-SafetyTest
returns-in-SafetyTest c = ap kind_number (sym c.in-SafetyTest.is)
