-- `dsc_words::Word::sum` meets its contract. Assumes nothing.
use mathlib.Core.Path.{sym}
use lib.Bits.{xor_lt}
use Rattle.dsc_words.proofs.Words.{add-word_of}
use Rattle.dsc_words.proofs.Word.sum.Goals as goal

pub invariant_of-result : goal.invariant_of-result
invariant_of-result c = record { fits = xor_lt 59 _ _ c.args.self.fits c.args.other.fits }

pub returns : goal.returns
returns c =
    let v = c.args.self in
    let e = c.args.other in
    sym (add-word_of v.low v.middle v.high e.low e.middle e.high)
