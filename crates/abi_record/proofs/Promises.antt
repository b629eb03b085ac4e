-- The promises hold. Assumes nothing.
use mathlib.Core.Path.{◌≡◌, refl, ap, ap₂, ◌∙◌}
use mathlib.Core.List.{List}
use Prim.Native.Nat.{ℕ, ◌<◌}
use native.Mathlib.Omega.{arith}
use lib.ListN.{length, take}
use Rattle.frame.specs.Fields.{field_count, fields, no_origin, record_from, SameFields}
use Rattle.frame.specs.declared.Tuner.{Tuner}
use Rattle.frame.specs.declared.Record.{Record}
use Rattle.frame.proofs.Origins.{from-own}
use Rattle.abi_tuner.proofs.Tuners.{named}
use Rattle.abi_record.specs.Values.{value_count, values_of, record_at}
use Rattle.abi_record.specs.Promises.{RecordValues}

size : (r : Record) → length (values_of r) ≡ value_count
unfolding values_of
size r = refl

back : (r : Record) → r.origin.repaired < 256 → record_at (values_of r) ≡ r
unfolding values_of record_at
back r h =
    ap₂ (λ (t : Tuner) (n : ℕ). record_from (record { tuner = t; repaired = n }) (fields r)) (named r.origin.tuner) (omega arith)
    ∙ from-own r

same : (v w : List ℕ) → take field_count v ≡ take field_count w → SameFields (record_at v) (record_at w)
unfolding record_at record_from
same v w e = ap (λ (l : List ℕ). fields (record_from no_origin l)) e

pub record-values : RecordValues
record-values = record { size = size; back = back; same = same }
