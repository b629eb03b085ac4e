-- `dsc_bits::clear` meets its contract: 187 bits, none of them set. Assumes nothing.
use mathlib.Core.Path.{refl}
use Rattle.dsc.specs.Code.{all_zero}
use Rattle.dsc.proofs.Word.{zeros-all}
use Rattle.dsc_bits.proofs.clear.Goals as goal

pub returns : goal.returns
unfolding all_zero
returns c = zeros-all _ refl
