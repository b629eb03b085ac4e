-- `follower::information_event` meets its contract. Assumes nothing.
use mathlib.Core.Path.{sym, ◌∙◌}
use Rattle.follower.proofs.information_event.Goals as goal

pub returns-then-same_kind : goal.returns-then-same_kind
returns-then-same_kind c = rw (c.in-Active.is, sym c.same_kind.ensures ∙ c.if-same_kind.true, c.change.ensures)

pub returns-else-same_kind : goal.returns-else-same_kind
returns-else-same_kind c = rw (c.in-Active.is, sym c.same_kind.ensures ∙ c.if-same_kind.false)
