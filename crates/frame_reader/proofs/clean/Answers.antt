-- `frame_reader::clean` meets its contract. Assumes nothing.
use mathlib.Core.Path.{ap, ◌∙◌}
use Rattle.dsc.specs.Marks.{unmarked}
use Rattle.frame.specs.declared.Tuner.TheVariants.{None}
use Rattle.frame_reader.specs.Examined.{cleaned_from}
use Rattle.frame_reader.proofs.ReadingCleaned.{cleaned-examined}
use Rattle.frame_reader.proofs.clean.Goals as goal

pub returns : goal.returns
returns c =
    let s = c.args in
    c.cleaned_of.ensures ∙ ap cleaned_from c.examine.ensures ∙ cleaned-examined s.edition unmarked None s.frame.now
