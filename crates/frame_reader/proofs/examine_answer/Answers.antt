-- `frame_reader::examine_answer` meets its contract. Assumes nothing.
use mathlib.Core.Path.{refl, ◌∙◌}
use Rattle.frame_reader.proofs.ReadingExamined.{answer-refused, answer-repaired}
use Rattle.frame_reader.proofs.examine_answer.Goals as goal

pub returns-in-Repaired : goal.returns-in-Repaired
returns-in-Repaired c =
    let s = c.args in
    answer-repaired s.edition s.tuner s.reference s.pattern s.differing s.answer c.in-Repaired.repaired c.in-Repaired.is _ _ _ c.examine_word.ensures refl refl refl

pub returns-in-Refused : goal.returns-in-Refused
returns-in-Refused c =
    let s = c.args in
    c.refused.ensures ∙ answer-refused s.edition s.tuner s.reference s.pattern s.differing s.answer c.in-Refused.field-0 c.in-Refused.is
