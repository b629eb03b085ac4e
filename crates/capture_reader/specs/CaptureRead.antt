-- Frame n of two captures, read (document 01, "Two tuners"; document 02, j), by the edition named. Assumes nothing.
use Rattle.std.specs.Prelude.{cond, List, [], ◌∷◌, ℕ, ◌+◌, ◌*◌, leb, length}
use Rattle.frame.specs.Fields.{fields}
use Rattle.frame.specs.Read.{read_of}
use Rattle.frame.specs.declared.Edition.{Edition}
use Rattle.frame.specs.declared.Tuner.{Tuner}
use Rattle.frame.specs.declared.Reading.{Reading}
use Rattle.frame.specs.declared.Reading.TheVariants as reading
use Rattle.capture.specs.Capture.{part_at, numbers_of, source_of, frame_at}
use Rattle.capture.specs.declared.TunerNumbers.{TunerNumbers}
use Rattle.capture_reader.specs.declared.CaptureReading.{CaptureReading}
use Rattle.capture_reader.specs.declared.CaptureReading.TheVariants.{Accepted, Refused}

-- an accepted frame's record and its differing bits; of a refused one both tuners' numbers
abbrev pub answered : Reading → TunerNumbers → CaptureReading
answered (reading.Accepted r d) numbers = Accepted r d
answered (reading.Refused n) numbers = Refused numbers.main numbers.spare

-- what `read` answers: the reader's answer to the frame's own bytes, told the tuner that they are taken from. Where neither has the frame these bytes are
-- an empty part, which the reader refuses.
unfoldable pub capture_read_of : Edition → (main spare : List ℕ) → ℕ → CaptureReading
capture_read_of ed main spare n = answered (read_of ed (source_of ed main spare n) (frame_at ed main spare n)) (numbers_of ed main spare n)

-- the documents' numbers and values of an answer: both tuners' numbers, main first, and nothing else, or the record's fields and no number
abbrev pub capture_refusals : CaptureReading → List ℕ
capture_refusals (Accepted r d) = []
capture_refusals (Refused m s) = m ∷ s ∷ []

abbrev pub capture_fields : CaptureReading → List ℕ
capture_fields (Accepted r d) = fields r
capture_fields (Refused m s) = []

-- frame n of the capture c of one tuner, as the code reads it; no promise speaks of it
unfoldable pub reading_at : Edition → Tuner → List ℕ → ℕ → Reading
reading_at ed t c n = cond (leb (26 * n + 26) (length c)) (read_of ed t (part_at c n)) (reading.Refused 1)
