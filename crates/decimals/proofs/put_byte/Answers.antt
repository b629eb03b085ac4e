-- `decimals::put_byte` meets its contract. Assumes nothing.
use mathlib.Core.Path.{refl}
use Rattle.decimals.proofs.put_byte.Goals as goal

pub returns : goal.returns
returns c = record { place = refl; text = refl }
