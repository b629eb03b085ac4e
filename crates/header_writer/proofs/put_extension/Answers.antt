-- `header_writer::put_extension` meets its contract. Assumes nothing.
use mathlib.Core.Path.{◌≡◌}
use native.Mathlib.Omega.{arith}
use lib.ListN.{length}
use Rattle.header.specs.Fields.{extension_fields}
use Rattle.header.specs.Layout.{extension_layout}
use Rattle.header_tables.proofs.Rows.{extension-row}
use Rattle.header_writer.proofs.FieldsWritten.{write-room, written}
use borrow.Author.Rules.{rules}
use Rattle.header_writer.proofs.put_extension.Goals as goal

pub write_fields-requires : goal.write_fields-requires
write_fields-requires c =
    let vs = c.args.extension.ac in
    let l : length vs ≡ 26 = search rules in
    write-room extension_layout c.extension_layout-layout.result c.extension_layout-layout.ensures 85 26 (length c.args.part.now) vs extension-row (omega (arith, c.requires)) l (omega arith)

pub returns : goal.returns
unfolding extension_fields
returns c =
    let s = c.args.part.now in
    written extension_layout c.extension_layout-layout.result c.extension_layout-layout.ensures 85 26 c.args.extension.ac s c.write_fields.new.buf extension-row (omega (arith, c.requires)) c.write_fields.auto.buf
    (λ i. (c.slice_known-1.given i).fits) (λ i. (c.type_inv.part i).fits) c.write_fields.ensures
