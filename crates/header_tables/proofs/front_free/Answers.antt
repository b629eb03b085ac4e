-- `header_tables::front_free` meets its contract. Assumes nothing.
use mathlib.Core.Path.{refl}
use Rattle.bits.specs.Segment.{free_widths}
use Rattle.header.specs.Layout.{front_layout}
use Rattle.header_tables.proofs.front_free.Goals as goal

pub returns : goal.returns
unfolding front_layout free_widths
returns c = refl
