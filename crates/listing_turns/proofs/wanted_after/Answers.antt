-- `listing_turns::wanted_after` meets its contract. Assumes nothing.
use native.Mathlib.Omega.{arith}
use Rattle.listing_turns.proofs.Room.{wanted-short, wanted-full}
use Rattle.listing_turns.proofs.wanted_after.Goals as goal

pub returns-then-len-turn_bytes : goal.returns-then-len-turn_bytes
returns-then-len-turn_bytes c = wanted-short _ _ _ _ c.turn_bytes.ensures (omega arith)

pub returns : goal.returns
returns c =
    wanted-full _ _ _ _ _ _ c.turn_bytes.ensures (omega arith) c.requires c.turn_bytes-2.ensures
