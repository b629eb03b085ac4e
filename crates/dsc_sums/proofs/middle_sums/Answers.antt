-- `dsc_sums::middle_sums` meets its contract: nothing comes round to these rows. Assumes nothing.
use native.Mathlib.Omega.{arith}
use Rattle.dsc_words.specs.Words.{held}
use Rattle.dsc_words.proofs.Words.{length-held}
use Rattle.dsc_sums.proofs.Products.{limb-sums}
use Rattle.dsc_sums.proofs.middle_sums.Goals as goal

pub returns : goal.returns
returns c =
    let w = c.args.word in
    record {
      rows128 = limb-sums (held w) (length-held w) c.limb2.ensures (omega arith) (omega arith) (omega arith);
      rows192 = limb-sums (held w) (length-held w) c.limb3.ensures (omega arith) (omega arith) (omega arith);
    }
