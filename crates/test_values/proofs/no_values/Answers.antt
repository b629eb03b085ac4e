-- `test_values::no_values` meets its contract. `search` finds this too; the file is here so that another value is refused by the two that differ. Assumes nothing.
use mathlib.Core.Path.{refl}
use Rattle.test_values.proofs.no_values.Goals as goal

pub returns : goal.returns
returns c = record { value = refl; value_2 = refl }
