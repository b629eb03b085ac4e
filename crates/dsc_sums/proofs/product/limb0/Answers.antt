-- `dsc_sums::product::limb0` meets its contract: its shifts are those of limb 0. Assumes nothing.
use borrow.Author.Rules.{rules}
use Rattle.dsc.specs.CheckTable.{differences}
use Rattle.dsc_sums.proofs.Products.{limb-of}
use Rattle.dsc_sums.proofs.product.limb0.Goals as goal

pub returns : goal.returns
unfolding differences
returns c =
    let w = c.args.word in
    limb-of w.low w.middle w.high (search rules) (search rules) w.fits 0
