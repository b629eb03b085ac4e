-- What this crate promises. The record has one value, proved in proofs/Promises.antt. Assumes nothing.
use Rattle.std.specs.Prelude.{◌≡◌, List, ℕ, ◌<◌, length, take}
use Rattle.frame.specs.Fields.{field_count, SameFields}
use Rattle.frame.specs.declared.Record.{Record}
use Rattle.abi_record.specs.Values.{value_count, values_of, record_at}

pub record RecordValues : Type 0 where
  -- a record has so many values
  pub size : (r : Record) → length (values_of r) ≡ value_count
  -- and comes back from them, its origin too: a count is a number of 8 bits
  pub back : (r : Record) → r.origin.repaired < 256 → record_at (values_of r) ≡ r
  -- whatever stands in the last two, it is the same in all fields but the tuner and the number of repaired places; so the writer, the report and the areas
  -- take any values there
  pub same : (v w : List ℕ) → take field_count v ≡ take field_count w → SameFields (record_at v) (record_at w)
