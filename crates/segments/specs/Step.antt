-- One segment of a row, as the loops take it. No promise speaks of these. Assumes nothing.
use Rattle.std.specs.Prelude.{List, ℕ, ◌+◌, ◌-◌, ◌^◌, get_or, set}
use Rattle.bits.specs.declared.Segment.{Segment}
use Rattle.bits.specs.declared.Segment.TheVariants.{Field, Ones, Zeros}

-- P, of a field
abbrev pub IfField : Segment → Type 0 → Type 0
IfField (Field w) P = P
IfField (Ones w) P = Unit {0}
IfField (Zeros w) P = Unit {0}

-- the place of the next field's value
abbrev pub next_place : Segment → (i : ℕ) → ℕ
next_place (Field w) i = i + 1
next_place (Ones w) i = i
next_place (Zeros w) i = i

-- the values after a segment that holds v
abbrev pub stored : Segment → (v i : ℕ) → List ℕ → List ℕ
stored (Field w) v i out = set out i v
stored (Ones w) v i out = out
stored (Zeros w) v i out = out

-- what the segment holds
abbrev pub segment_value : Segment → (i : ℕ) → List ℕ → ℕ
segment_value (Field w) i vs = get_or vs i 0
segment_value (Ones w) i vs = 2 ^ w - 1
segment_value (Zeros w) i vs = 0
