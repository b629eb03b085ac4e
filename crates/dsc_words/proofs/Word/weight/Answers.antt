-- `dsc_words::Word::weight` meets its contract. Assumes nothing.
use native.Mathlib.Omega.{arith}
use borrow.Author.Rules.{rules}
use Rattle.dsc_words.proofs.Words.{weight-word_of}
use Rattle.dsc_words.proofs.Word.weight.Goals as goal

pub returns-clause-weight : goal.returns-clause-weight
returns-clause-weight c =
    let w = c.args.self in
    omega (arith, weight-word_of w.low w.middle w.high (search rules) (search rules) w.fits)
