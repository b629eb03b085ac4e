-- `abi_record::record_at` meets its contract. Assumes nothing.
use mathlib.Core.Path.{refl}
use Rattle.abi_record.proofs.Stored.{found}
use Rattle.abi_record.proofs.record_at.Goals as goal

pub returns : goal.returns
returns c =
    found c.args.values.now c.tuner_of.ensures refl c.record_of.ensures
