-- `header_reader::find_front` meets its contract. Assumes nothing.
use mathlib.Core.Path.{ap}
use native.Mathlib.Omega.{arith}
use lib.ListN.{length, length-take, length-drop}
use Rattle.header.specs.Layout.{front_layout}
use Rattle.header.specs.Fields.{front_of}
use Rattle.header.specs.Tests.{slot_bit_wrong}
use Rattle.header.specs.Header.{front_in}
use Rattle.header_tables.proofs.Rows.{front-row, read-room}
use Rattle.header_reader.proofs.FieldsRead.{part-read}
use Rattle.header_reader.proofs.find_front.Goals as goal

pub read_fields-fixed-requires : goal.read_fields-fixed-requires
read_fields-fixed-requires c =
    read-room front_layout _ c.front_layout-layout.ensures 99 119 _ _ front-row (simp (length-take, length-drop) (omega (arith, c.requires))) (ap length c.zeros-v.ensures)

pub returns : goal.returns
unfolding front_in slot_bit_wrong
returns c =
    let p = part-read front_layout _ c.front_layout-layout.ensures front_of _ _ _ _ (c.read_fields-fixed.ensures.fixed, c.read_fields-fixed.ensures.values) c.front_of-front.ensures in
    λ i. record { fixed = p.0 i; front = p.1 i }
