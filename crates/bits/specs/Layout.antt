-- Rows of fields, end to end, by the list of their widths.
-- Assumes nothing.
use Rattle.std.specs.Prelude.{Bool, true, false, ◌&&◌, List, [], ◌∷◌, ◌++◌, ℕ, ◌+◌, ◌*◌, ◌^◌, ◌<◌, ◌≤◌, leb, ltb, take, drop, get_or}
use Rattle.bits.specs.Bits.{value, bits_of}

-- the values in fields of the given widths; a value that is missing is 0
unfoldable pub pack : List ℕ → List ℕ → List Bool
pack [] vs = []
pack (w ∷ ws) [] = bits_of w 0 ++ pack ws []
pack (w ∷ ws) (v ∷ vs) = bits_of w v ++ pack ws vs

-- the values that stand in fields of the given widths
unfoldable pub unpack : List ℕ → List Bool → List ℕ
unpack [] bs = []
unpack (w ∷ ws) bs = value (take w bs) ∷ unpack ws (drop w bs)

unfoldable pub sum : List ℕ → ℕ
sum [] = 0
sum (w ∷ ws) = w + sum ws

-- each value fits its field, and there are as many values as fields
abbrev pub Fit : List ℕ → List ℕ → Type 0
Fit [] [] = Unit {0}
Fit [] (v ∷ vs) = ⊥
Fit (w ∷ ws) [] = ⊥
Fit (w ∷ ws) (v ∷ vs) = (v < 2 ^ w) × Fit ws vs

-- the same as a test
abbrev pub fitb : List ℕ → List ℕ → Bool
fitb [] [] = true
fitb [] (v ∷ vs) = false
fitb (w ∷ ws) [] = false
fitb (w ∷ ws) (v ∷ vs) = ltb v (2 ^ w) && fitb ws vs

-- each width is below 64, so that 2 to its power is a number of 64 bits
abbrev pub Narrow : List ℕ → Type 0
Narrow ws = (i : ℕ) → get_or ws i 0 < 64

-- the same as a test
abbrev pub narrowb : List ℕ → Bool
narrowb [] = true
narrowb (w ∷ ws) = ltb w 64 && narrowb ws

-- widths that a row of n bytes has room for; `short` keeps a place in bits within a machine word
pub record Layout (ws : List ℕ) (n : ℕ) : Type 0 where
  pub narrow : Narrow ws
  pub room : sum ws ≤ 8 * n
  pub short : sum ws < 65536

-- the same as a test
abbrev pub layoutb : List ℕ → ℕ → Bool
layoutb ws n = narrowb ws && (leb (sum ws) (8 * n) && ltb (sum ws) 65536)
