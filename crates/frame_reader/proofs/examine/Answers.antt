-- `frame_reader::examine` meets its contract. Assumes nothing.
use mathlib.Core.Path.{refl, sym, ◌∙◌}
use Rattle.dsc.specs.Marks.{unmarked}
use Rattle.frame_reader.proofs.ReadingExamined.{preamble-refused, examined-answer}
use Rattle.frame_reader.proofs.examine.Goals as goal

pub returns-in-Passed : goal.returns-in-Passed
returns-in-Passed c =
    let s = c.args in
    examined-answer s.edition unmarked s.tuner s.frame.now refl c.in-Passed.reference c.in-Passed.pattern c.in-Passed.differing (sym c.preamble_of.ensures ∙ c.in-Passed.is)
    c.repair-answer.result c.repair-answer.ensures.1 c.examine_answer.result c.examine_answer.ensures

pub returns-in-Refused : goal.returns-in-Refused
returns-in-Refused c =
    let s = c.args in
    c.refused.ensures ∙ preamble-refused s.edition unmarked s.tuner s.frame.now refl c.in-Refused.number (sym c.preamble_of.ensures ∙ c.in-Refused.is)
