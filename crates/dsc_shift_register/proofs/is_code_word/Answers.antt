-- `dsc_shift_register::is_code_word` meets its contract. Assumes nothing.
use mathlib.Core.Path.{ap, ◌∙◌}
use Rattle.dsc.specs.Code.{all_zero}
use Rattle.dsc_shift_register.proofs.is_code_word.Goals as goal

pub returns : goal.returns
returns c = c.is_zero.ensures ∙ ap all_zero c.load-s.ensures
