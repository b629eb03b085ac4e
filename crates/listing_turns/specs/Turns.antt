-- The listing in turns (document 01, "The listing"; document 02, d), by the edition named and by what the input is made of: what is read, told and written.
-- Assumes nothing.
use Rattle.std.specs.Prelude.{◌≡◌, ◌⊎◌, Bool, cond, ◌&&◌, List, [], ◌++◌, ℕ, zero, suc, ◌+◌, ◌-◌, ◌*◌, ◌<◌, ◌≤◌, min, eqb, ltb, leb, length, take, drop}
use Rattle.frame.specs.declared.Edition.{Edition}
use Rattle.listing.specs.Lines.{piece_size, piece_count, lines, end_line}
use Rattle.listing.specs.declared.Pieces.{Pieces}
use Rattle.listing.specs.declared.Pieces.TheVariants.{Frames, MarkedFrames}
use Rattle.listing_turns.specs.declared.Turn.{Turn}

-- how many pieces a turn reads at most: those of 65,520 bytes
abbrev pub per_turn : Pieces → ℕ
per_turn Frames = 2520
per_turn MarkedFrames = 1260

-- after how many turns 999,999 pieces are read
abbrev pub turns_at_most : Pieces → ℕ
turns_at_most Frames = 397
turns_at_most MarkedFrames = 794

-- how many bytes are read after n pieces: those of a turn, or of the pieces that are left to 999,999
abbrev pub turn_bytes : Pieces → ℕ → ℕ
turn_bytes p n = piece_size p * min (per_turn p) (999999 - n)

-- and after b bytes more: none where these were fewer, since the input has ended
unfoldable pub wanted_after : Pieces → (n b : ℕ) → ℕ
wanted_after p n b = cond (ltb b (turn_bytes p n)) 0 (turn_bytes p (n + piece_count p b))

-- the lines of all pieces of s, after n pieces
abbrev pub lines_after : Edition → Pieces → ℕ → List ℕ → List ℕ
lines_after ed p n s = lines ed p (piece_count p (length s)) (n + 1) s

-- the text of a turn: these lines, and the last line if nothing more is read
unfoldable pub turn_text : Edition → Pieces → ℕ → List ℕ → List ℕ
turn_text ed p n s = lines_after ed p n s ++ cond (eqb (wanted_after p n (length s)) 0) (end_line (n + piece_count p (length s))) []

-- c pieces after n end at piece 999,999 or before, and a buffer of m bytes has 32 for each line and 32 for the last
unfoldable pub fits : (n c m : ℕ) → Bool
fits n c m = leb (n + c) 999999 && leb (32 * (c + 1)) m

-- ---- what `list_piece` answers, after n pieces, for s and a buffer of m bytes

abbrev pub turn_done : Edition → Pieces → ℕ → List ℕ → Turn
turn_done ed p n s =
    record { written = length (turn_text ed p n s); listed = n + piece_count p (length s); wanted = wanted_after p n (length s) }

abbrev pub turn_refused : ℕ → Turn
turn_refused n = record { written = 0; listed = n; wanted = 0 }

unfoldable pub turn_of : Edition → Pieces → (n : ℕ) (s : List ℕ) (m : ℕ) → Turn
turn_of ed p n s m = cond (fits n (piece_count p (length s)) m) (turn_done ed p n s) (turn_refused n)

-- and what it leaves in the buffer
unfoldable pub buffer_after : Edition → Pieces → ℕ → (s out : List ℕ) → List ℕ
buffer_after ed p n s out =
    cond (fits n (piece_count p (length s)) (length out)) (turn_text ed p n s ++ drop (length (turn_text ed p n s)) out) out

-- what holds of every answer t, after n pieces and for a buffer of m bytes: what is to be written stands in the buffer, what is wanted is at most 65,520
-- bytes, and either nothing is wanted, or pieces were listed and there are some left to 999,999
pub record Ahead (n m : ℕ) (t : Turn) : Type 0 where
  pub within : t.written ≤ m
  pub size : t.wanted ≤ 65520
  pub kept : n ≤ t.listed
  pub more : (t.wanted ≡ 0) ⊎ ((n < t.listed) × (t.listed < 999999))

-- ---- the program

-- before the first turn
abbrev pub start : Turn
start = record { written = 0; listed = 0; wanted = 65520 }

-- the bytes that are read after a turn
abbrev pub piece_of : Turn → List ℕ → List ℕ
piece_of t s = take t.wanted s

-- the turn after it, by way of a buffer
abbrev pub turn_after : Edition → Pieces → Turn → (s out : List ℕ) → Turn
turn_after ed p t s out = turn_of ed p t.listed (piece_of t s) (length out)

-- what is written in k turns at most, after a turn, where s is left of the input: while something is wanted, that is read, a turn is made of it, and what the turn
-- tells is written from the buffer
unfoldable pub program_text : Edition → Pieces → (k : ℕ) → Turn → (s out : List ℕ) → List ℕ
program_text ed p zero t s out = []
program_text ed p (suc k) t s out =
    cond (eqb t.wanted 0) []
    (take (turn_after ed p t s out).written (buffer_after ed p t.listed (piece_of t s) out)
    ++ program_text ed p k (turn_after ed p t s out) (drop t.wanted s) (buffer_after ed p t.listed (piece_of t s) out))
