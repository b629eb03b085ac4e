-- `header_tables::extension_free` meets its contract. Assumes nothing.
use mathlib.Core.Path.{refl}
use Rattle.bits.specs.Segment.{free_widths}
use Rattle.header.specs.Layout.{extension_layout}
use Rattle.header_tables.proofs.Listed.{listed}
use Rattle.header_tables.proofs.extension_free.Goals as goal

pub returns : goal.returns
unfolding extension_layout free_widths
returns c = listed 8 4 _ refl refl refl
