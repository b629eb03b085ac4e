-- What this crate promises, in the words of documents 01 and 02, d). The record has one value for every edition and every kind of pieces, proved in
-- proofs/Promises.antt. Assumes nothing.
use Rattle.std.specs.Prelude.{◌≡◌, List, ℕ, ◌+◌, ◌*◌, ◌≤◌, length}
use Rattle.frame.specs.declared.Edition.{Edition}
use Rattle.listing.specs.Lines.{piece_size, listing_of}
use Rattle.listing.specs.declared.Pieces.{Pieces}
use Rattle.listing_turns.specs.Turns.{turns_at_most, turn_of, Ahead, start, program_text}

pub record ListingTurns (ed : Edition) (p : Pieces) : Type 0 where
  -- the turns write the listing of the whole input, by way of any buffer of 80,672 bytes or more, and end after 397 of them at the latest, of marked frames
  -- after 794
  pub whole : (k : ℕ) (s out : List ℕ) → turns_at_most p ≤ k → 80672 ≤ length out → program_text ed p k start s out ≡ listing_of ed p s
  -- no turn asks for a byte past piece 999,999, whatever it is given
  pub stops : (n : ℕ) (s : List ℕ) (m : ℕ) → n ≤ 999999
      → piece_size p * (turn_of ed p n s m).listed + (turn_of ed p n s m).wanted ≤ piece_size p * 999999
  -- each turn gets on, so that the program ends
  pub ahead : (n : ℕ) (s : List ℕ) (m : ℕ) → Ahead n m (turn_of ed p n s m)
