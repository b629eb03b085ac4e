-- `frame_fields::record_of` meets its contract. Assumes nothing.
use mathlib.Core.Path.{refl}
use Rattle.frame.specs.Fields.{record_from}
use Rattle.frame_fields.proofs.record_of.Goals as goal

pub returns : goal.returns
unfolding record_from
returns c = refl
