-- What this crate promises, in the words of documents 01 and 02, a) and d). The record has one value for every edition and every kind of pieces, proved in
-- proofs/Promises.antt. Assumes nothing.
use Rattle.std.specs.Prelude.{◌≡◌, List, [], ◌∷◌, ◌++◌, ℕ, zero, suc, ◌+◌, ◌*◌, ◌≤◌, ◌<◌, length, take, drop}
use Rattle.decimals.specs.Decimal.{decimal}
use Rattle.gf2.specs.Polynomial.{zeros}
use Rattle.dsc.specs.Repair.{protected}
use Rattle.dsc.specs.Marks.{repair_by}
use Rattle.frame.specs.Promises.{NotSafety}
use Rattle.frame.specs.Read.{identification_in}
use Rattle.frame.specs.declared.Edition.{Edition}
use Rattle.listing.specs.Lines.{piece_size, frame_in, marking_in, verdict_of, lines, line_of, listing_of}
use Rattle.listing.specs.declared.Pieces.{Pieces}
use Rattle.listing.specs.declared.Pieces.TheVariants.{Frames, MarkedFrames}

-- no one of the first k pieces of s has the repaired identification 5 or 6
unfoldable pub NoneSafety : Pieces → ℕ → List ℕ → Type 0
NoneSafety p zero s = Unit {0}
NoneSafety p (suc k) s =
    let f = take (piece_size p) s in
    NotSafety (identification_in (repair_by (marking_in p f) (frame_in p f)).word) × NoneSafety p k (drop (piece_size p) s)

-- a marked frame beside the frame alone
pub record MarkedListing (ed : Edition) : Type 0 where
  -- a frame with no mark on B17 to B203 is judged, and so listed, as the frame without marks
  pub no-marks : (f m : List ℕ) → length f ≡ 26 → length m ≡ 26 → protected m ≡ zeros 187 → verdict_of ed MarkedFrames (f ++ m) ≡ verdict_of ed Frames f

pub record Listing (ed : Edition) (p : Pieces) : Type 0 where
  -- empty input gives `end 0`
  pub empty : listing_of ed p [] ≡ 101 ∷ 110 ∷ 100 ∷ 32 ∷ 48 ∷ 10 ∷ []
  -- a short piece is refused with 1
  pub short : (s : List ℕ) → length s < piece_size p → verdict_of ed p s ≡ record { number = 1; repaired = 0 }
  -- an accepted piece with t repaired places, and then a short one, give `1 0 t`, `2 1 -`, `end 2`: a clean frame and then five bytes are the case of t = 0
  pub example : (f x : List ℕ) (t : ℕ) → length f ≡ piece_size p → verdict_of ed p f ≡ record { number = 0; repaired = t }
      → 0 < length x → length x < piece_size p
      → listing_of ed p (f ++ x)
      ≡ (49 ∷ 32 ∷ 48 ∷ 32 ∷ (decimal t ++ 10 ∷ [])) ++ 50 ∷ 32 ∷ 49 ∷ 32 ∷ 45 ∷ 10 ∷ 101 ∷ 110 ∷ 100 ∷ 32 ∷ 50 ∷ 10 ∷ []
  -- the pieces may be listed in turns: those of a row of whole pieces, and then the rest, with the next number
  pub turns : (s t : List ℕ) (k j n : ℕ) → length s ≡ piece_size p * k → lines ed p (k + j) n (s ++ t) ≡ lines ed p k n s ++ lines ed p j (n + k) t
  -- what comes after piece 999,999 is not listed
  pub stops : (s t : List ℕ) → length s ≡ piece_size p * 999999 → listing_of ed p (s ++ t) ≡ listing_of ed p s
  -- a line has at most 32 bytes
  pub line-short : (n : ℕ) (s : List ℕ) → n < 18446744073709551616 → length (line_of n (verdict_of ed p s)) ≤ 32
  -- which edition is named does not matter to pieces whose repaired identification is not 5 or 6
  pub alike : (other : Edition) (k n : ℕ) (s : List ℕ) → NoneSafety p k s → lines ed p k n s ≡ lines other p k n s
