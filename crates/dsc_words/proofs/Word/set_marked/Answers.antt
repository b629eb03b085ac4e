-- `dsc_words::Word::set_marked` meets its contract. Assumes nothing.
use lib.Bits.{or_lt}
use Rattle.dsc_words.proofs.Marks.{sets, filled-word_of}
use Rattle.dsc_words.proofs.Word.set_marked.Goals as goal

pub invariant_of-result : goal.invariant_of-result
invariant_of-result c = record { fits = or_lt 59 _ _ c.args.self.fits c.args.marks.fits }

pub returns : goal.returns
returns c =
    let w = c.args.self in
    let m = c.args.marks in
    filled-word_of sets w.low w.middle w.high m.low m.middle m.high
