-- `header_tables::front_layout` meets its contract. Assumes nothing.
use Rattle.std.proofs.Common.{◌≡◌, refl, replicate}
use Rattle.bits.specs.declared.Segment.TheVariants.{Field}
use Rattle.header.specs.Layout.{front_layout}
use Rattle.header_tables.proofs.front_layout.Goals as goal

pub returns : goal.returns
unfolding front_layout
returns c =
    let valid : c.fill.new.self ≡ replicate 15 (Field 1) = c.fill.ensures.after (λ y e. e) in
    let ids : c.fill-2.new.self ≡ replicate 30 (Field 16) = rw valid at (c.fill-2.ensures.after (λ y e. e)) in
    let states : c.fill-3.new.self ≡ replicate 15 (Field 2) = rw (valid, ids) at (c.fill-3.ensures.after (λ y e. e)) in
    rw (valid, ids, states) refl
