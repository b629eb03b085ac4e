-- The listing (document 01, "The listing"; document 02, a) and d), as bytes, by the edition named and by what the input is made of. Assumes nothing.
use Rattle.std.specs.Prelude.{cond, List, [], ◌∷◌, ◌++◌, ℕ, zero, suc, ◌+◌, ◌-◌, ◌*◌, ◌/◌, min, eqb, leb, length, take, drop}
use Rattle.dsc.specs.Marks.{Marking, unmarked, marked}
use Rattle.frame.specs.Read.{judge_by}
use Rattle.frame.specs.declared.Edition.{Edition}
use Rattle.frame.specs.declared.Verdict.{Verdict}
use Rattle.decimals.specs.Decimal.{decimal}
use Rattle.listing.specs.declared.Pieces.{Pieces}
use Rattle.listing.specs.declared.Pieces.TheVariants.{Frames, MarkedFrames}

-- how many bytes a piece has: a frame; or a frame and then a mark for each of its bits
abbrev pub piece_size : Pieces → ℕ
piece_size Frames = 26
piece_size MarkedFrames = 52

-- the frame of a piece
abbrev pub frame_in : Pieces → List ℕ → List ℕ
frame_in Frames s = s
frame_in MarkedFrames s = take 26 s

-- and its marks, if it comes with any
abbrev pub marking_in : Pieces → List ℕ → Marking
marking_in Frames s = unmarked
marking_in MarkedFrames s = marked (drop 26 s)

-- what a piece is judged to be
unfoldable pub verdict_of : Edition → Pieces → List ℕ → Verdict
verdict_of ed p s = judge_by ed (marking_in p s) (frame_in p s)

-- repaired places, or `-` when refused
abbrev pub places_text : Verdict → List ℕ
places_text v = cond (eqb v.number 0) (decimal v.repaired) (45 ∷ [])

-- a piece's line: its number, the refusal or 0, the places, with one space between them
unfoldable pub line_of : ℕ → Verdict → List ℕ
line_of n v = decimal n ++ (32 ∷ (decimal v.number ++ (32 ∷ (places_text v ++ 10 ∷ []))))

-- the last line: `end` and the count
unfoldable pub end_line : ℕ → List ℕ
end_line n = 101 ∷ 110 ∷ 100 ∷ 32 ∷ (decimal n ++ 10 ∷ [])

-- how many pieces are in n bytes; a short last piece counts
unfoldable pub piece_count : Pieces → ℕ → ℕ
piece_count p n = (n + (piece_size p - 1)) / piece_size p

-- the lines of the first k pieces of s, numbered from n on
unfoldable pub lines : Edition → Pieces → (k n : ℕ) → List ℕ → List ℕ
lines ed p zero n s = []
lines ed p (suc k) n s = line_of n (verdict_of ed p (take (piece_size p) s)) ++ lines ed p k (n + 1) (drop (piece_size p) s)

-- the whole text for an input: reading stops after piece 999,999
unfoldable pub listing_of : Edition → Pieces → List ℕ → List ℕ
listing_of ed p s = lines ed p (min (piece_count p (length s)) 999999) 1 s ++ end_line (min (piece_count p (length s)) 999999)

-- what `list` answers, for the lines of all pieces of s into a buffer of m bytes: 0 where it has not 32 bytes for each of them
unfoldable pub list_count : Edition → Pieces → (s : List ℕ) (n m : ℕ) → ℕ
list_count ed p s n m = cond (leb (32 * piece_count p (length s)) m) (length (lines ed p (piece_count p (length s)) n s)) 0

-- and what it leaves in the buffer
unfoldable pub list_of : Edition → Pieces → (s : List ℕ) (n : ℕ) → List ℕ → List ℕ
list_of ed p s n out =
    cond (leb (32 * piece_count p (length s)) (length out))
    (lines ed p (piece_count p (length s)) n s ++ drop (length (lines ed p (piece_count p (length s)) n s)) out) out

-- the same of `end`, for a buffer of 32 bytes and more
unfoldable pub end_count : (n m : ℕ) → ℕ
end_count n m = cond (leb 32 m) (length (end_line n)) 0

unfoldable pub end_of : ℕ → List ℕ → List ℕ
end_of n out = cond (leb 32 (length out)) (end_line n ++ drop (length (end_line n)) out) out
