-- `follower::seen_in` meets its contract. Assumes nothing.
use Rattle.follower.proofs.seen_in.Goals as goal

pub returns-in-Warning : goal.returns-in-Warning
returns-in-Warning c = rw (c.in-Warning.is, c.kind_of.ensures)

pub returns-in-SafetyInformation : goal.returns-in-SafetyInformation
returns-in-SafetyInformation c = rw (c.in-SafetyInformation.is, c.kind_of-in-SafetyInformation.ensures)

pub returns-in-Silent : goal.returns-in-Silent
returns-in-Silent c = rw c.in-Silent.is

pub returns-in-Undefined : goal.returns-in-Undefined
returns-in-Undefined c = rw c.in-Undefined.is
