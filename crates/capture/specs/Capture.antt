-- Frames in two captures (document 01, "Two tuners"; document 02, a), by the edition named. Assumes nothing.
use Rattle.std.specs.Prelude.{cond, List, [], ℕ, ◌+◌, ◌*◌, eqb, leb, length, take, drop}
use Rattle.frame.specs.Read.{frame_refusal}
use Rattle.frame.specs.declared.Edition.{Edition}
use Rattle.frame.specs.declared.Tuner.{Tuner}
use Rattle.frame.specs.declared.Tuner.TheVariants.{None, Main, Spare}
use Rattle.capture.specs.declared.TunerNumbers.{TunerNumbers}

-- frame n's bytes
abbrev pub part_at : List ℕ → ℕ → List ℕ
part_at c n = take 26 (drop (26 * n) c)

-- a tuner's number for frame n: 1 where its 26 bytes do not all lie in the capture c
unfoldable pub number_at : Edition → List ℕ → ℕ → ℕ
number_at ed c n = cond (leb (26 * n + 26) (length c)) (frame_refusal ed (part_at c n)) 1

-- what `numbers` answers
abbrev pub numbers_of : Edition → (main spare : List ℕ) → ℕ → TunerNumbers
numbers_of ed main spare n = record { main = number_at ed main n; spare = number_at ed spare n }

-- the main one if accepted there, otherwise the spare one if accepted there
unfoldable pub source_of : Edition → (main spare : List ℕ) → ℕ → Tuner
source_of ed main spare n = cond (eqb (number_at ed main n) 0) Main (cond (eqb (number_at ed spare n) 0) Spare None)

-- the bytes of frame n in a tuner's capture; neither: an empty part
abbrev pub bytes_from : Tuner → (main spare : List ℕ) → ℕ → List ℕ
bytes_from Main main spare n = part_at main n
bytes_from Spare main spare n = part_at spare n
bytes_from None main spare n = []

-- what `frame_at` answers
abbrev pub frame_at : Edition → (main spare : List ℕ) → ℕ → List ℕ
frame_at ed main spare n = bytes_from (source_of ed main spare n) main spare n

-- where frame n stands, when its capture stands at this place, a block and a byte in it: at byte 26n of the capture
abbrev pub position_at : ℕ × ℕ → ℕ → ℕ × ℕ
position_at capture n = (capture.0, 26 * n + capture.1)

-- where those bytes stand, when the captures stand at these places. An empty part is cut from the main one's start.
abbrev pub position_from : Tuner → (main spare : ℕ × ℕ) → ℕ → ℕ × ℕ
position_from Main main spare n = position_at main n
position_from Spare main spare n = position_at spare n
position_from None main spare n = main
