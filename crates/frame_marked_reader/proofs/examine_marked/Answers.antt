-- `frame_marked_reader::examine_marked` meets its contract. Assumes nothing.
use mathlib.Core.Path.{sym, ◌∙◌}
use native.Mathlib.Omega.{arith}
use Rattle.dsc.specs.Marks.{marked}
use Rattle.dsc.proofs.MarkedAnswers.{marked-whole}
use Rattle.frame.proofs.Marks.{marked-frames}
use Rattle.frame_reader.proofs.ReadingExamined.{examined-refused, preamble-refused, examined-answer}
use Rattle.frame_marked_reader.proofs.examine_marked.Goals as goal

pub returns-then-marks-ne26 : goal.returns-then-marks-ne26
returns-then-marks-ne26 c =
    let s = c.args in
    let f = s.frame.now in
    let m = s.marks.now in
    c.refused.ensures ∙ examined-refused s.edition (marked m) s.tuner f 1 ((marked-frames s.edition).short-marks m f c.if-marks-ne26.true) (λ z. omega arith)

pub returns-in-Passed : goal.returns-in-Passed
returns-in-Passed c =
    let s = c.args in
    let f = s.frame.now in
    let m = s.marks.now in
    examined-answer s.edition (marked m) s.tuner f (marked-whole m f c.if-marks-ne26.false) c.in-Passed.reference c.in-Passed.pattern c.in-Passed.differing
    (sym c.preamble_of.ensures ∙ c.in-Passed.is) c.repair_marked-answer.result c.repair_marked-answer.ensures c.examine_answer.result c.examine_answer.ensures

pub returns-in-Refused : goal.returns-in-Refused
returns-in-Refused c =
    let s = c.args in
    let f = s.frame.now in
    let m = s.marks.now in
    c.refused-in-Refused.ensures
    ∙ preamble-refused s.edition (marked m) s.tuner f (marked-whole m f c.if-marks-ne26.false) c.in-Refused.number (sym c.preamble_of.ensures ∙ c.in-Refused.is)
