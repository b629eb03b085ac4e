-- `abi_receiver::event_status` meets its contract. Assumes nothing.
use native.Mathlib.Omega.{arith}
use Rattle.follower_events.specs.declared.Event.TheVariants.{Quiet, Ended, Begins, Same, Changed, Skipped, Refused}
use Rattle.abi_receiver.proofs.Numbers.{event-told}
use Rattle.abi_receiver.proofs.event_status.Goals as goal

pub returns-in-Quiet : goal.returns-in-Quiet
returns-in-Quiet c = record { status = event-told Quiet c.in-Quiet.is c.status.ensures; small = omega (arith, c.status.ensures) }

pub returns-in-Ended : goal.returns-in-Ended
returns-in-Ended c = record { status = event-told Ended c.in-Ended.is c.status-in-Ended.ensures; small = omega (arith, c.status-in-Ended.ensures) }

pub returns-in-Begins : goal.returns-in-Begins
returns-in-Begins c = record { status = event-told Begins c.in-Begins.is c.status-in-Begins.ensures; small = omega (arith, c.status-in-Begins.ensures) }

pub returns-in-Same : goal.returns-in-Same
returns-in-Same c = record { status = event-told Same c.in-Same.is c.status-in-Same.ensures; small = omega (arith, c.status-in-Same.ensures) }

pub returns-in-Changed : goal.returns-in-Changed
returns-in-Changed c = record { status = event-told Changed c.in-Changed.is c.status-in-Changed.ensures; small = omega (arith, c.status-in-Changed.ensures) }

pub returns-in-Skipped : goal.returns-in-Skipped
returns-in-Skipped c = record { status = event-told Skipped c.in-Skipped.is c.status-in-Skipped.ensures; small = omega (arith, c.status-in-Skipped.ensures) }

pub returns-in-Refused : goal.returns-in-Refused
returns-in-Refused c = record { status = event-told (Refused _) c.in-Refused.is c.status-in-Refused.ensures; small = omega (arith, c.status-in-Refused.ensures) }
