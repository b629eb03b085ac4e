-- `dsc_marked::repair_marked` meets its contract. Assumes nothing.
use mathlib.Core.Path.{refl}
use Rattle.dsc_marked.proofs.Cases.{whole-answer}
use Rattle.dsc_marked.proofs.repair_marked.Goals as goal

pub returns : goal.returns
returns c =
    let s = c.args in
    whole-answer s.frame.now s.marks.now c.repair_marked_into-outcome.ensures.value c.repair_marked_into-outcome.ensures.word_after refl
