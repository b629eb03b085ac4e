-- `abi_repair::repair_register` meets its contract, by the register. Assumes nothing.
use mathlib.Core.Path.{ap, ◌∙◌}
use Rattle.dsc.specs.Repair.{left_in}
use Rattle.dsc.specs.Marks.{unmarked}
use Rattle.abi_repair.proofs.RepairCases.{word-length, wrong-buffer, told}
use Rattle.abi_repair.proofs.repair_register.Goals as goal

pub returns-then-word-ne-WORD_BYTES : goal.returns-then-word-ne-WORD_BYTES
returns-then-word-ne-WORD_BYTES c =
    let s = c.args in
    let r = wrong-buffer unmarked s.frame.now s.word.now c.if-word-ne-WORD_BYTES.true in
    record { value = c.status.ensures ∙ r.0; word_after = r.1 }

pub put_answer-requires : goal.put_answer-requires
put_answer-requires c =
    let s = c.args in
    word-length unmarked s.frame.now s.word.now c.if-word-ne-WORD_BYTES.false c.repair-answer.ensures.repairs.1

pub returns : goal.returns
returns c =
    let s = c.args in
    let e = c.repair-answer.ensures.repairs.1 in
    let both = told unmarked s.frame.now s.word.now c.if-word-ne-WORD_BYTES.false (ap (λ r. r.outcome) e) c.status_of.ensures
    (c.put_answer.ensures ∙ ap (λ r. left_in r s.word.now) e) in
    record { value = both.0; word_after = both.1 }
