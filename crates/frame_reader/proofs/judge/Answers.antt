-- `frame_reader::judge` meets its contract. Assumes nothing.
use mathlib.Core.Path.{ap, ◌∙◌}
use Rattle.dsc.specs.Marks.{unmarked}
use Rattle.frame.specs.Read.{reading_verdict}
use Rattle.frame.specs.declared.Tuner.TheVariants.{None}
use Rattle.frame_reader.proofs.ReadingExamined.{verdict-read}
use Rattle.frame_reader.proofs.judge.Goals as goal

pub returns : goal.returns
returns c =
    let s = c.args in
    c.verdict_of.ensures ∙ ap reading_verdict c.read.ensures ∙ verdict-read s.edition unmarked None s.frame.now
