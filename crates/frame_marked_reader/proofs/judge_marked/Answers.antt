-- `frame_marked_reader::judge_marked` meets its contract. Assumes nothing.
use mathlib.Core.Path.{ap, ◌∙◌}
use Rattle.dsc.specs.Marks.{marked}
use Rattle.frame.specs.Read.{reading_verdict}
use Rattle.frame.specs.declared.Tuner.TheVariants.{None}
use Rattle.frame_reader.proofs.ReadingExamined.{verdict-read}
use Rattle.frame_marked_reader.proofs.judge_marked.Goals as goal

pub returns : goal.returns
returns c =
    let s = c.args in
    c.verdict_of.ensures ∙ ap reading_verdict c.read_marked.ensures ∙ verdict-read s.edition (marked s.marks.now) None s.frame.now
