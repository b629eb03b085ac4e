-- `header_inserter::put_ac` meets its contract. Assumes nothing.
use mathlib.Core.Path.{◌≡◌}
use lib.ListN.{length}
use borrow.Author.Rules.{rules}
use Rattle.header_inserter.proofs.AcValues.{part_room, part-written}
use Rattle.header_inserter.proofs.put_ac.Goals as goal

pub write_all-requires : goal.write_all-requires
write_all-requires c =
    let count : length c.args.values.now ≡ 26 = search rules in
    part_room _ _ _ c.extension_free-widths.ensures c.requires count

pub returns : goal.returns
returns c =
    part-written _ _ c.args.part.now c.write_all.new.buf c.extension_free-widths.ensures c.requires c.write_all.auto.buf
    (λ i. (c.slice_known-1.given i).fits) (λ i. (c.type_inv.part i).fits) c.write_all.ensures
