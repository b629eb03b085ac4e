-- `abi_repair::repair_marked` meets its contract. Assumes nothing.
use mathlib.Core.Path.{◌∙◌}
use Rattle.dsc.specs.Marks.{marked}
use Rattle.abi_repair.proofs.RepairCases.{wrong-buffer, told}
use Rattle.abi_repair.proofs.repair_marked.Goals as goal

pub returns-then-word-ne-WORD_BYTES : goal.returns-then-word-ne-WORD_BYTES
returns-then-word-ne-WORD_BYTES c =
    let s = c.args in
    let r = wrong-buffer (marked s.marks.now) s.frame.now s.word.now c.if-word-ne-WORD_BYTES.true in
    record { value = c.status.ensures ∙ r.0; word_after = r.1 }

pub returns : goal.returns
returns c =
    let s = c.args in
    let both = told (marked s.marks.now) s.frame.now s.word.now c.if-word-ne-WORD_BYTES.false c.repair_marked_into-outcome.ensures.value c.status_of.ensures c.repair_marked_into-outcome.ensures.word_after in
    record { value = both.0; word_after = both.1 }
