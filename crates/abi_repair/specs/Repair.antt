-- What the repair returns and what it leaves in its buffer, of the frame's bytes f, marked as q says, and the buffer's bytes w. Assumes nothing.
use Rattle.std.specs.Prelude.{cond, List, ℕ, eqb, length}
use Rattle.dsc.specs.Repair.{number_of, places_of}
use Rattle.dsc.specs.Marks.{Marking, repair_by}
use Rattle.abi.specs.Status.{status_of}

-- a buffer of another length than 26 bytes is 1, else it is the repair's answer
unfoldable pub repair_status : Marking → (f w : List ℕ) → ℕ
repair_status q f w = cond (eqb (length w) 26) (status_of (number_of (repair_by q f)) (places_of (repair_by q f))) (status_of 1 0)

-- the repaired word where nothing was refused, else what was there
unfoldable pub repair_word : Marking → (f w : List ℕ) → List ℕ
repair_word q f w = cond (eqb (length w) 26) (cond (eqb (number_of (repair_by q f)) 0) (repair_by q f).word w) w
