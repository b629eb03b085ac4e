-- `listing::piece_size` meets its contract. `search` finds this too; the file is here so that another size is refused by the two that differ. Assumes
-- nothing.
use mathlib.Core.Path.{sym, ap}
use Rattle.listing.specs.Lines.{piece_size}
use Rattle.listing.proofs.piece_size.Goals as goal

pub returns-in-Frames : goal.returns-in-Frames
returns-in-Frames c = ap piece_size (sym c.in-Frames.is)

pub returns-in-MarkedFrames : goal.returns-in-MarkedFrames
returns-in-MarkedFrames c = ap piece_size (sym c.in-MarkedFrames.is)
