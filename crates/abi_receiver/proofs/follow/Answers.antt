-- `abi_receiver::follow` meets its contract. Assumes nothing.
use mathlib.Core.Path.{◌∙◌, ap, ap₂}
use Rattle.frame.specs.declared.Edition.{Edition}
use Rattle.follower.specs.Follow.{step_of}
use Rattle.follower.specs.declared.Follower.{Follower}
use Rattle.abi_receiver.specs.Receiver.{step_status, follow_status}
use Rattle.abi_receiver.proofs.follow.Goals as goal

pub returns : goal.returns
unfolding follow_status
returns c =
    let f = c.args.frame.now in
    c.step_status.ensures
    ∙ ap step_status
    (c.step.ensures
    ∙ ap₂ (λ (e : Edition) (s : Follower). step_of e s f) c.edition_of.ensures c.state_of.ensures)
