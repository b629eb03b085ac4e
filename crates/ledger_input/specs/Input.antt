-- The ledger of an input (document 02, l): its frames are those of the listing, pieces of 26 bytes of which the last may be short, and it is read in turns.
-- Assumes nothing.
use Rattle.std.specs.Prelude.{◌≡◌, cond, ◌⊎◌, List, [], ◌∷◌, ◌++◌, ℕ, zero, suc, ◌-◌, ◌*◌, ◌≤◌, ◌<◌, min, eqb, ltb, length, take, drop}
use Rattle.frame.specs.declared.Edition.{Edition}
use Rattle.listing.specs.Lines.{piece_size, piece_count}
use Rattle.listing.specs.declared.Pieces.TheVariants.{Frames}
use Rattle.ledger.specs.Counting.{Frame, ledger_of, most_frames, possible, fresh, counted_in}
use Rattle.ledger.specs.Report.{ledger_report, length_of}
use Rattle.ledger.specs.declared.Ledger.{Ledger}
use Rattle.ledger_input.specs.declared.LedgerTurn.{LedgerTurn}

-- the first k frames of s
unfoldable pub frames_in : Edition → (k : ℕ) → List ℕ → List Frame
frames_in ed zero s = []
frames_in ed (suc k) s = (ed, take (piece_size Frames) s) ∷ frames_in ed k (drop (piece_size Frames) s)

-- all of them; a short last piece is one
abbrev pub all_frames : Edition → List ℕ → List Frame
all_frames ed s = frames_in ed (piece_count Frames (length s)) s

-- the ledger of an input: after 4,000,000 frames reading stops
unfoldable pub input_ledger : Edition → List ℕ → Ledger
input_ledger ed s = ledger_of (frames_in ed (min (piece_count Frames (length s)) most_frames) s)

-- its report
abbrev pub input_report : Edition → List ℕ → List ℕ
input_report ed s = ledger_report (input_ledger ed s)

-- ---- in turns

-- how many bytes are read after n frames: those of a turn, or of the frames that are left to 4,000,000
abbrev pub wanted_at : ℕ → ℕ
wanted_at n = 26 * min 2520 (most_frames - n)

-- after how many turns 4,000,000 frames are read
abbrev pub turns_at_most : ℕ
turns_at_most = 1588

-- the ledger after a turn, by the bytes s that were read
abbrev pub ledger_after : Edition → LedgerTurn → List ℕ → Ledger
ledger_after ed t s = counted_in t.ledger (all_frames ed s)

-- the turn after it: nothing more is read where fewer bytes came than were asked for, since the input has ended
unfoldable pub turn_after : Edition → LedgerTurn → List ℕ → LedgerTurn
turn_after ed t s =
    record { ledger = ledger_after ed t s; wanted = cond (ltb (length s) t.wanted) 0 (wanted_at (ledger_after ed t s).seen) }

-- before the first turn
abbrev pub start : LedgerTurn
start = record { ledger = fresh; wanted = 65520 }

-- the turn after k turns at most, where s is left of the input: while something is wanted, that is read and a turn is made of it
unfoldable pub program_turn : Edition → (k : ℕ) → LedgerTurn → List ℕ → LedgerTurn
program_turn ed zero t s = t
program_turn ed (suc k) t s = cond (eqb t.wanted 0) t (program_turn ed k (turn_after ed t (take t.wanted s)) (drop t.wanted s))

-- a turn in the course of the program: its ledger is that of a list, and nothing is wanted, or what is read after so many frames
pub record Standing (t : LedgerTurn) : Type 0 where
  pub frames : List Frame
  pub few : length frames ≤ most_frames
  pub counted : t.ledger ≡ ledger_of frames
  pub next : (t.wanted ≡ 0) ⊎ (t.wanted ≡ wanted_at (length frames))

-- what holds of every turn u after a turn t: what is wanted is at most 65,520 bytes, and either nothing is wanted, or frames were counted and there are some
-- left to 4,000,000
pub record Ahead (t u : LedgerTurn) : Type 0 where
  pub standing : Standing u
  pub size : u.wanted ≤ 65520
  pub kept : t.ledger.seen ≤ u.ledger.seen
  pub more : (u.wanted ≡ 0) ⊎ ((t.ledger.seen < u.ledger.seen) × (u.ledger.seen < most_frames))

-- ---- what is written

-- a buffer with the report of a possible ledger at its start
unfoldable pub with_report : Ledger → List ℕ → List ℕ
with_report l out = cond (possible l) (ledger_report l ++ drop (length (ledger_report l)) out) out

-- as many bytes as the report has, from the buffer that it was put into
unfoldable pub program_text : Edition → (k : ℕ) → (s out : List ℕ) → List ℕ
program_text ed k s out = let l = (program_turn ed k start s).ledger in take (length_of l) (with_report l out)
