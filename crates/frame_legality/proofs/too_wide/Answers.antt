-- `frame_legality::too_wide` meets its contract. Assumes nothing.
use Rattle.frame_legality.proofs.too_wide.Goals as goal

pub returns : goal.returns
returns c = cc
