-- `follower::seen_of` meets its contract. Assumes nothing.
use mathlib.Core.Path.{sym, ap, ◌∙◌}
use Rattle.frame.specs.declared.Class.{Class}
use Rattle.follower.specs.Follow.{seen_in, seen_of}
use Rattle.follower.proofs.seen_of.Goals as goal

pub returns-in-Refused : goal.returns-in-Refused
returns-in-Refused c = rw c.in-Refused.is

pub returns-in-Accepted : goal.returns-in-Accepted
returns-in-Accepted c =
    let s = c.args in
    c.seen_in.ensures
    ∙ ap (λ (k : Class). seen_in k c.in-Accepted.message) c.class_of.ensures
    ∙ ap (seen_of s.edition) (sym c.in-Accepted.is)
