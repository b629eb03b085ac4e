-- `dsc_sums::outer_sums` meets its contract. Assumes nothing.
use native.Mathlib.Omega.{arith}
use borrow.Author.Rules.{rules}
use Rattle.dsc_words.specs.Words.{held}
use Rattle.dsc_words.proofs.Words.{length-held}
use Rattle.dsc_sums.proofs.Products.{limb-sums, folded-sums}
use Rattle.dsc_sums.proofs.outer_sums.Goals as goal

pub returns : goal.returns
returns c =
    let w = c.args.word in
    let l = length-held w in
    record {
      rows0 = folded-sums (held w) l {k = 0} (search rules) (search rules) c.limb0.ensures c.limb4-fourth.ensures c.limb5-fifth.ensures (omega arith);
      rows64 = folded-sums (held w) l {k = 1} (search rules) (search rules) c.limb1.ensures c.limb5-fifth.ensures c.limb6-sixth.ensures (omega arith);
      rows256 = limb-sums (held w) l c.limb4-fourth.ensures (omega arith) (omega arith) (omega arith);
    }
