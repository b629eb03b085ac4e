-- `follower_events::same-kind` meets its contract. Assumes nothing.
use mathlib.Core.Path.{ap₂}
use lib.Dec.{eqb}
use Rattle.follower_events.proofs.same_kind.Goals as goal

pub returns : goal.returns
returns c = ap₂ eqb c.kind_number.ensures c.kind_number-2.ensures
