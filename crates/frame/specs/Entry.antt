-- What stands in a body, entry by entry, and the one table of the record's fields there: each with its index in the record and its bits. Assumes nothing.
use Rattle.std.specs.Prelude.{List, [], ◌∷◌, ℕ}
use Rattle.bits.specs.declared.Segment.{Segment}
use Rattle.bits.specs.declared.Segment.TheVariants.{Field, Ones}

-- field k of the record in w bits, or w bits that are all 1
pub data Entry : Type 0 where
  held : (k w : ℕ) → Entry
  ones : (w : ℕ) → Entry

-- a row of entries as segments, and the fields' indices in its order
abbrev pub segment_of : Entry → Segment
segment_of (held k w) = Field w
segment_of (ones w) = Ones w

abbrev pub segments_of : List Entry → List Segment
segments_of [] = []
segments_of (e ∷ l) = segment_of e ∷ segments_of l

abbrev pub indices_of : List Entry → List ℕ
indices_of [] = []
indices_of (held k w ∷ l) = k ∷ indices_of l
indices_of (ones w ∷ l) = indices_of l

-- the fields that stand in the details
abbrev pub time : Entry
time = held 4 31

abbrev pub page : Entry
page = held 5 1

-- the 56 areas
abbrev pub areas : Entry
areas = held 6 56

abbrev pub total : Entry
total = held 7 1

abbrev pub item : Entry
item = held 8 1

-- the warning's number
abbrev pub number : Entry
number = held 9 9

abbrev pub kind : Entry
kind = held 10 1

abbrev pub south : Entry
south = held 11 1

abbrev pub latitude : Entry
latitude = held 12 10

abbrev pub west : Entry
west = held 13 1

abbrev pub longitude : Entry
longitude = held 14 11

abbrev pub depth : Entry
depth = held 15 10

abbrev pub occurred : Entry
occurred = held 16 10

abbrev pub broadcaster : Entry
broadcaster = held 17 11

-- 対象地域情報, the last 57 bits of area safety information
abbrev pub region : Entry
region = held 18 57
