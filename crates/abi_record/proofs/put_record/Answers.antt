-- `abi_record::put_record` meets its contract. Assumes nothing.
use mathlib.Core.Path.{refl, ◌∙◌}
use native.Mathlib.Omega.{arith}
use lib.ListN.{drop, length-set, length-drop}
use Rattle.abi_record.proofs.Stored.{stored}
use Rattle.abi_record.proofs.put_record.Goals as goal

pub bounds-values-20 : goal.bounds-values-20
bounds-values-20 c = rw length-set (omega arith)

pub returns : goal.returns
returns c =
    stored c.args.contents _ (drop 19 c.args.values.now) _ _ (c.copy.ensures ∙ c.fields_of-fields.ensures)
    (omega (arith, length-drop 19 c.args.values.now, c.requires)) c.tuner_number.ensures refl
