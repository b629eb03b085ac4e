-- `dsc_marked::find_filled` meets its contract: the word of the first filling, of the second, or none. Assumes nothing.
use borrow.Author.Rules.{rules}
use Rattle.dsc_words.specs.Words.{held}
use Rattle.dsc_words.proofs.Words.{length-held}
use Rattle.dsc_marked.proofs.Cases.{either-found}
use Rattle.dsc_marked.proofs.find_filled.Goals as goal

pub returns : goal.returns
returns c =
    let a = c.args in
    either-found (held a.marks.word) (held a.received) (length-held a.marks.word) (length-held a.received) c.clear_marked-cleared.ensures c.set_marked-filled.ensures
    c.try_filling.result c.or_else.result c.try_filling.ensures (λ second. search rules) c.or_else.ensures
