-- `listing_turns::per_turn` meets its contract. `search` finds this too; the file is here so that another number is refused by the two that differ. Assumes
-- nothing.
use mathlib.Core.Path.{sym, ap}
use Rattle.listing_turns.specs.Turns.{per_turn}
use Rattle.listing_turns.proofs.per_turn.Goals as goal

pub returns-in-Frames : goal.returns-in-Frames
returns-in-Frames c = ap per_turn (sym c.in-Frames.is)

pub returns-in-MarkedFrames : goal.returns-in-MarkedFrames
returns-in-MarkedFrames c = ap per_turn (sym c.in-MarkedFrames.is)
