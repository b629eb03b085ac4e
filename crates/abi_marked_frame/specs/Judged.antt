-- A frame with doubtful marks, judged over plain numbers (document 02, d). Assumes nothing.
use Rattle.std.specs.Prelude.{List, ℕ, ◌+◌, ◌*◌}
use Rattle.dsc.specs.Marks.{marked}
use Rattle.frame.specs.Read.{read_by, reading_number, reading_places, reading_differing}
use Rattle.frame.specs.declared.Edition.TheVariants.{First}
use Rattle.frame.specs.declared.Tuner.TheVariants.{None}
use Rattle.frame.specs.declared.Reading.{Reading}
use Rattle.abi.specs.Status.{status_of}

-- the number, 256 times the repaired places and 65536 times the differing bits; of a refused frame the number alone
abbrev pub damage_status : Reading → ℕ
damage_status a = status_of (reading_number a) (reading_places a) + 65536 * reading_differing a

-- by the first edition
unfoldable pub judge_marked_status : (f m : List ℕ) → ℕ
judge_marked_status f m = damage_status (read_by First (marked m) None f)
