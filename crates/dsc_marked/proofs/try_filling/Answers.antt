-- `dsc_marked::try_filling` meets its contract: the code word near a filling, tested. Assumes nothing.
use Rattle.dsc_words.specs.Words.{held}
use Rattle.dsc_words.proofs.Words.{length-held}
use Rattle.dsc_marked.proofs.Cases.{filling-near, filling-far}
use Rattle.dsc_marked.proofs.try_filling.Goals as goal

pub returns-in_err-nearest : goal.returns-in_err-nearest
returns-in_err-nearest c =
    let a = c.args in
    rw c.from_residual.ensures
    (filling-far (held a.marks.word) (held a.received) (length-held a.marks.word) (length-held a.received) (held a.filling) (length-held a.filling) c.in_err-nearest.ensures)

pub returns : goal.returns
returns c =
    let a = c.args in
    filling-near (held a.marks.word) (held a.received) (length-held a.marks.word) (length-held a.received) (held a.filling) (length-held a.filling)
    c.in_ok-nearest.nearest c.in_ok-nearest.ensures c.accepted.result c.accepted.ensures
