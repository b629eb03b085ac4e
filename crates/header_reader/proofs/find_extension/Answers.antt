-- `header_reader::find_extension` meets its contract. Assumes nothing.
use mathlib.Core.Path.{ap}
use native.Mathlib.Omega.{arith}
use lib.ListN.{length, length-take, length-drop}
use Rattle.header.specs.Layout.{extension_layout}
use Rattle.header.specs.Fields.{extension_of}
use Rattle.header.specs.Tests.{extension_wrong}
use Rattle.header.specs.Header.{extension_in}
use Rattle.header_tables.proofs.Rows.{extension-row, read-room}
use Rattle.header_reader.proofs.FieldsRead.{part-read}
use Rattle.header_reader.proofs.find_extension.Goals as goal

pub read_fields-fixed-requires : goal.read_fields-fixed-requires
read_fields-fixed-requires c =
    read-room extension_layout _ c.extension_layout-layout.ensures 85 26 _ _ extension-row (simp (length-take, length-drop) (omega (arith, c.requires))) (ap length c.zeros-v.ensures)

pub returns : goal.returns
unfolding extension_in extension_wrong
returns c =
    let p = part-read extension_layout _ c.extension_layout-layout.ensures extension_of _ _ _ _ (c.read_fields-fixed.ensures.fixed, c.read_fields-fixed.ensures.values) c.extension_of-extension.ensures in
    λ i. record { fixed = p.0 i; extension = p.1 i }
