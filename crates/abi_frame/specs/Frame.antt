-- Frames over plain numbers: a record is its values in their order. What each function returns, and what it leaves in its buffer s. Assumes nothing.
use Rattle.std.specs.Prelude.{cond, List, ℕ, ◌+◌, ◌*◌, eqb, length}
use Rattle.bits.specs.Bits.{digit}
use Rattle.abi_record.specs.Values.{value_count, values_of, record_at}
use Rattle.dsc.specs.Marks.{Marking}
use Rattle.frame.specs.Read.{read_by, reading_number, reading_differing}
use Rattle.frame.specs.Write.{write_number, write_of}
use Rattle.frame.specs.Area.{warned_in}
use Rattle.frame.specs.declared.Edition.{Edition}
use Rattle.frame.specs.declared.Tuner.{Tuner}
use Rattle.frame.specs.declared.Reading.{Reading}
use Rattle.frame.specs.declared.Reading.TheVariants.{Accepted, Refused}
use Rattle.abi.specs.Status.{status_of}

-- the number, and 65536 times the differing bits; the repaired places stand in the record alone
abbrev pub reading_status : Reading → ℕ
reading_status a = status_of (reading_number a) 0 + 65536 * reading_differing a

-- the values of an accepted frame's record
abbrev pub reading_values : Reading → List ℕ → List ℕ
reading_values (Accepted r d) s = values_of r
reading_values (Refused n) s = s

-- a record's buffer of another length than it has values is 1, else the reader answers to the frame, marked as q says, told the tuner t
unfoldable pub frame_read_status : Edition → Marking → Tuner → (f s : List ℕ) → ℕ
frame_read_status ed q t f s = cond (eqb (length s) value_count) (reading_status (read_by ed q t f)) (status_of 1 0)

unfoldable pub frame_read_record : Edition → Marking → Tuner → (f s : List ℕ) → List ℕ
frame_read_record ed q t f s = cond (eqb (length s) value_count) (reading_values (read_by ed q t f) s) s

-- a record of another length than it has values is 1, else the writer answers
unfoldable pub frame_write_status : Edition → (v s : List ℕ) → ℕ
frame_write_status ed v s = cond (eqb (length v) value_count) (status_of (write_number ed (record_at v) (length s)) 0) (status_of 1 0)

unfoldable pub frame_write_bytes : Edition → (v s : List ℕ) → List ℕ
frame_write_bytes ed v s = cond (eqb (length v) value_count) (write_of ed (record_at v) s) s

-- a record of another length than it has values is 1, else 1 stands above the number where the area is warned; past area 55 none is
unfoldable pub warned_status : (v : List ℕ) (area : ℕ) → ℕ
warned_status v k = cond (eqb (length v) value_count) (status_of 0 (digit (warned_in (record_at v) k))) (status_of 1 0)
