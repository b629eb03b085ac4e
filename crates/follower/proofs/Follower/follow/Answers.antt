-- `follower::Follower::follow` meets its contract. Assumes nothing.
use Rattle.follower.proofs.Cases.{step-refused, step-silent, step-informed}
use Rattle.follower.proofs.Follower.follow.Goals as goal

pub returns-in-Refused : goal.returns-in-Refused
returns-in-Refused c = step-refused _ _ _ c.in-Refused.is

pub returns-in-Quiet : goal.returns-in-Quiet
returns-in-Quiet c = step-silent _ _ _ c.in-Quiet.is c.in-Silence.is

pub returns-in-Active : goal.returns-in-Active
returns-in-Active c = step-silent _ _ _ c.in-Active.is c.in-Silence.is

pub returns-in-Information : goal.returns-in-Information
returns-in-Information c = step-informed _ _ _ _ _ c.in-Information.is c.information_event.ensures
