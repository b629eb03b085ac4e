-- `dsc_words::Word::received` meets its contract. Assumes nothing.
use Rattle.dsc_words.proofs.Loading.{three-words}
use Rattle.dsc_words.proofs.Word.received.Goals as goal

pub returns : goal.returns
returns c =
    three-words c.args.frame.now c.requires _ _ _ c.eight-x.ensures c.eight-y.ensures c.eight-z.ensures
