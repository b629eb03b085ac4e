-- `header_tables::extension_layout` meets its contract. Assumes nothing.
use Rattle.std.proofs.Common.{◌≡◌, refl, replicate}
use Rattle.bits.specs.declared.Segment.TheVariants.{Field}
use Rattle.header.specs.Layout.{extension_layout}
use Rattle.header_tables.proofs.extension_layout.Goals as goal

pub returns : goal.returns
unfolding extension_layout
returns c =
    let ac : c.fill.new.self ≡ replicate 25 (Field 8) = c.fill.ensures.after (λ y e. e) in
    rw ac refl
