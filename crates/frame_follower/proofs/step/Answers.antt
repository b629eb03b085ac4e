-- `frame_follower::step` meets its contract. Assumes nothing.
use mathlib.Core.Path.{ap, ◌∙◌}
use Rattle.follower.specs.Follow.{step_seen, seen_of, step_of}
use Rattle.frame_follower.proofs.step.Goals as goal

pub returns : goal.returns
unfolding step_of
returns c =
    let s = c.args in
    c.follow.ensures
    ∙ ap (step_seen s.state) (c.seen_of.ensures ∙ ap (seen_of s.edition) c.read.ensures)
