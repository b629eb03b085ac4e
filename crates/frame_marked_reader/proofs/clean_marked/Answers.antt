-- `frame_marked_reader::clean_marked` meets its contract. Assumes nothing.
use mathlib.Core.Path.{ap, ◌∙◌}
use Rattle.dsc.specs.Marks.{marked}
use Rattle.frame.specs.declared.Tuner.TheVariants.{None}
use Rattle.frame_reader.specs.Examined.{cleaned_from}
use Rattle.frame_reader.proofs.ReadingCleaned.{cleaned-examined}
use Rattle.frame_marked_reader.proofs.clean_marked.Goals as goal

pub returns : goal.returns
returns c =
    let s = c.args in
    c.cleaned_of.ensures ∙ ap cleaned_from c.examine_marked.ensures ∙ cleaned-examined s.edition (marked s.marks.now) None s.frame.now
