-- Layouts with fixed bits: a row of segments, end to end. A segment is a field that holds a value, or bits that are fixed.
-- Assumes nothing.
use Rattle.std.specs.Prelude.{Bool, true, false, ◌&&◌, List, [], ◌∷◌, ℕ, ◌-◌, ◌^◌, eqb}
use Rattle.bits.specs.Layout.{pack, unpack}
use Rattle.bits.specs.declared.Segment.{Segment}
use Rattle.bits.specs.declared.Segment.TheVariants.{Field, Ones, Zeros}

abbrev pub width : Segment → ℕ
width (Field w) = w
width (Ones w) = w
width (Zeros w) = w

-- the widths of all segments
unfoldable pub widths : List Segment → List ℕ
widths [] = []
widths (g ∷ l) = width g ∷ widths l

-- the widths of the fields alone
unfoldable pub free_widths : List Segment → List ℕ
free_widths [] = []
free_widths (Field w ∷ l) = w ∷ free_widths l
free_widths (Ones w ∷ l) = free_widths l
free_widths (Zeros w ∷ l) = free_widths l

-- a segment holds v, if that is fixed
abbrev pub holds : Segment → ℕ → Bool
holds (Field w) v = true
holds (Ones w) v = eqb v (2 ^ w - 1)
holds (Zeros w) v = eqb v 0

-- there is a value for each segment, and each fixed one holds its own
unfoldable pub fixed_hold : List Segment → List ℕ → Bool
fixed_hold [] [] = true
fixed_hold [] (v ∷ vs) = false
fixed_hold (g ∷ l) [] = false
fixed_hold (g ∷ l) (v ∷ vs) = holds g v && fixed_hold l vs

-- the fields' values, out of the values of all segments
unfoldable pub free : List Segment → List ℕ → List ℕ
free [] vs = []
free (g ∷ l) [] = []
free (Field w ∷ l) (v ∷ vs) = v ∷ free l vs
free (Ones w ∷ l) (v ∷ vs) = free l vs
free (Zeros w ∷ l) (v ∷ vs) = free l vs

-- the values of all segments, out of the fields' values; a value that is missing is 0
unfoldable pub with_fixed : List Segment → List ℕ → List ℕ
with_fixed [] vs = []
with_fixed (Field w ∷ l) [] = 0 ∷ with_fixed l []
with_fixed (Field w ∷ l) (v ∷ vs) = v ∷ with_fixed l vs
with_fixed (Ones w ∷ l) vs = (2 ^ w - 1) ∷ with_fixed l vs
with_fixed (Zeros w ∷ l) vs = 0 ∷ with_fixed l vs

-- the bits of a row of segments whose fields hold the given values
abbrev pub pack_segments : List Segment → List ℕ → List Bool
pack_segments l vs = pack (widths l) (with_fixed l vs)

-- the values that stand in the fields
abbrev pub unpack_segments : List Segment → List Bool → List ℕ
unpack_segments l bs = free l (unpack (widths l) bs)

-- the fixed bits are as they should be
abbrev pub fixed_bits_hold : List Segment → List Bool → Bool
fixed_bits_hold l bs = fixed_hold l (unpack (widths l) bs)
