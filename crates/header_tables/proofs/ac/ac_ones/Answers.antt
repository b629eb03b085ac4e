-- `header_tables::ac_ones` meets its contract. Assumes nothing.
use mathlib.Core.Path.{refl}
use Rattle.header_tables.specs.AcTables.{ac_ones}
use Rattle.header_tables.proofs.Listed.{listed}
use Rattle.header_tables.proofs.ac.ac_ones.Goals as goal

pub returns : goal.returns
unfolding ac_ones
returns c = listed 255 15 _ refl refl refl
