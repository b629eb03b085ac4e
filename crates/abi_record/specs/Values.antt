-- A frame's record over plain numbers. Assumes nothing.
use Rattle.std.specs.Prelude.{List, [], ◌∷◌, ◌++◌, ℕ, ◌+◌, ◌%◌, get_or, take}
use Rattle.frame.specs.Fields.{field_count, fields, record_from}
use Rattle.frame.specs.declared.Record.{Record}
use Rattle.abi_tuner.specs.Tuner.{tuner_number, tuner_of}

-- how many values a record has
abbrev pub value_count : ℕ
value_count = field_count + 2

-- its fields, 0 to 18; 19 the tuner's number, 20 the number of repaired places
unfoldable pub values_of : Record → List ℕ
values_of r = fields r ++ tuner_number r.origin.tuner ∷ r.origin.repaired ∷ []

-- the record that has these values: a number that no tuner has is none, and of the number of repaired places the low 8 bits are kept
unfoldable pub record_at : List ℕ → Record
record_at v = record_from (record { tuner = tuner_of (get_or v field_count 0); repaired = get_or v (field_count + 1) 0 % 256 }) (take field_count v)
