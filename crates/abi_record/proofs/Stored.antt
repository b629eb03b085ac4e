-- The values of a record, as they are stored. Assumes nothing.
use mathlib.Core.Path.{◌≡◌, refl, ap, ap₂, ◌∙◌}
use mathlib.Core.List.{List, [], ◌∷◌, ◌++◌}
use Prim.Native.Nat.{ℕ, ◌+◌, ◌%◌}
use native.Mathlib.Omega.{arith}
use lib.ListN.{length, get_or, take, set}
use Rattle.frame.specs.Fields.{field_count, fields, record_from}
use Rattle.frame.specs.declared.Tuner.{Tuner}
use Rattle.frame.specs.declared.Record.{Record}
use Rattle.abi_tuner.specs.Tuner.{tuner_number, tuner_of}
use Rattle.abi_record.specs.Values.{values_of, record_at}

-- the fields, and the two after them where the last two values of the buffer stood
two-stored : (r : Record) (l : List ℕ) (m n : ℕ) → length l ≡ 2 → set (set (fields r ++ l) field_count m) (field_count + 1) n ≡ fields r ++ m ∷ n ∷ []
two-stored r [] m n e = absurd (omega arith)
two-stored r (x ∷ []) m n e = absurd (omega arith)
two-stored r (x ∷ y ∷ []) m n e = refl
two-stored r (x ∷ y ∷ z ∷ l) m n e = absurd (omega arith)

pub stored : (r : Record) (v l : List ℕ) (m n : ℕ) → v ≡ fields r → length l ≡ 2 → m ≡ tuner_number r.origin.tuner → n ≡ r.origin.repaired
    → set (set (v ++ l) field_count m) (field_count + 1) n ≡ values_of r
unfolding values_of
stored r v l m n ev el em en =
    ap (λ (w : List ℕ). set (set (w ++ l) field_count m) (field_count + 1) n) ev
    ∙ two-stored r l m n el
    ∙ ap₂ (λ (a b : ℕ). fields r ++ a ∷ b ∷ []) em en

-- the record of the values v: t is the tuner found, and n the number of repaired places
pub found : (v : List ℕ) {r : Record} {t : Tuner} {n : ℕ} → t ≡ tuner_of (get_or v field_count 0) → n ≡ get_or v (field_count + 1) 0 % 256
    → r ≡ record_from (record { tuner = t; repaired = n }) (take field_count v) → r ≡ record_at v
unfolding record_at
found v et en er = er ∙ ap₂ (λ (t : Tuner) (n : ℕ). record_from (record { tuner = t; repaired = n }) (take field_count v)) et en
