-- `header_writer::seal` meets its contract. Assumes nothing.
use mathlib.Core.Path.{refl}
use Rattle.header_writer.proofs.Writing.{crc-put-at}
use Rattle.header_writer.proofs.seal.Goals as goal

pub returns : goal.returns
returns c =
    let h = c.args.header.now in
    crc-put-at h c.put.new.s c.crc32-crc.result c.requires c.put.auto.s (λ i. (c.slice_known-1.given i).fits) (λ i. (c.type_inv.header i).fits) c.crc32-crc.ensures c.put.ensures refl refl refl
