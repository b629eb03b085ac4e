-- What the tests before the repair say of any bytes. Assumes nothing.
use Rattle.std.specs.Prelude.{cond, List, ℕ, eqb}
use Rattle.bits.specs.Field.{field_at}
use Rattle.bits.specs.Refusal.{first_refusal}
use Rattle.dsc.specs.Marks.{unmarked}
use Rattle.sync_pattern.specs.Pattern.{fitting_pattern, fitting_differing}
use Rattle.frame.specs.Read.{sync_in, before_repair}
use Rattle.frame_refusals.specs.declared.Preamble.{Preamble}
use Rattle.frame_refusals.specs.declared.Preamble.TheVariants.{Passed, Refused}

-- the first of their refusals, or where none is given the reference, the pattern and how many bits differ from it
unfoldable pub preamble_of : List ℕ → Preamble
preamble_of f =
    cond (eqb (first_refusal (before_repair unmarked f)) 0)
    (Passed (field_at f 0 1) (fitting_pattern (sync_in f)) (fitting_differing (sync_in f)))
    (Refused (first_refusal (before_repair unmarked f)))
