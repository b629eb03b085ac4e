-- `listing_turns::fits` meets its contract. Assumes nothing.
use native.Mathlib.Omega.{arith}
use Rattle.listing_turns.proofs.Room.{fits-past, fits-room}
use Rattle.listing_turns.proofs.fits.Goals as goal

pub returns-then-listed-gt999999 : goal.returns-then-listed-gt999999
returns-then-listed-gt999999 c = fits-past _ _ _ (omega arith)

pub returns-then-count-listed : goal.returns-then-count-listed
returns-then-count-listed c = fits-past _ _ _ (omega arith)

pub returns : goal.returns
returns c = fits-room _ _ _ (omega arith)
