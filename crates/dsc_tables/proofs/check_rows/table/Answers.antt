-- `dsc_tables::check_rows::table` meets its contract: one computed test over the whole table gives the rule at each entry. Assumes nothing.
use mathlib.Core.Path.{refl}
use Rattle.dsc.specs.CheckTable.{differences}
use Rattle.dsc_tables.proofs.TableRule.{entry, checked}
use Rattle.dsc_tables.proofs.check_rows.table.Goals as goal

pub returns : goal.returns
unfolding differences entry
returns c = checked _ refl tt
