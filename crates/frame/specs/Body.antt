-- The details, B24 to B111: five bodies of 88 bits (notice 368, schedules 2, 3 and 5). Assumes nothing.
use Rattle.std.specs.Prelude.{cond, List, [], ◌∷◌, ℕ, ◌+◌, eqb}
use Rattle.bits.specs.declared.Segment.{Segment}
use Rattle.bits.specs.Segment.{width}
use Rattle.frame.specs.Entry.{Entry, ones, segment_of, segments_of, indices_of, time, page, areas, total, item, number, kind, south, latitude, west, longitude, depth, occurred, broadcaster, region}
use Rattle.frame.specs.declared.Class.{Class}
use Rattle.frame.specs.declared.Class.TheVariants.{Warning, SafetyInformation, Silent, Undefined}
use Rattle.frame.specs.declared.Body.{Body}
use Rattle.frame.specs.declared.Body.TheVariants.{AreaPage, PlacePage, CancelPage, SafetyDetails, NoInformation}

-- the body, by the class, the page, B55, and the kind, B67
abbrev pub body_of : Class → (page kind : ℕ) → Body
body_of Warning page kind = cond (eqb page 1) (cond (eqb kind 1) CancelPage PlacePage) AreaPage
body_of SafetyInformation page kind = SafetyDetails
body_of Silent page kind = NoInformation
body_of Undefined page kind = NoInformation

-- what stands in a body, from B24 on. All else that is said of a body's bits is derived from this.
unfoldable pub row : Body → List Entry
row AreaPage = time ∷ page ∷ areas ∷ []
row PlacePage = time ∷ page ∷ total ∷ item ∷ number ∷ kind ∷ south ∷ latitude ∷ west ∷ longitude ∷ depth ∷ occurred ∷ ones 1 ∷ []
-- B68 to B110 all 1, and B111
row CancelPage = time ∷ page ∷ total ∷ item ∷ number ∷ kind ∷ ones 43 ∷ ones 1 ∷ []
-- all 88 bits are carried
row SafetyDetails = time ∷ region ∷ []
-- B24 to B55 all 1, B67 to B111 all 1
row NoInformation = ones 32 ∷ broadcaster ∷ ones 45 ∷ []

-- each entry of a row that begins with bit n, and its first bit
abbrev pub first_bits : ℕ → List Entry → List (Entry × ℕ)
first_bits n [] = []
first_bits n (e ∷ l) = (e, n) ∷ first_bits (n + width (segment_of e)) l

-- its segments
unfoldable pub layout : Body → List Segment
layout b = segments_of (row b)

-- the indices of the record's fields that it holds, in its order
abbrev pub indices : Body → List ℕ
indices b = indices_of (row b)

-- the update, B19 to B20, as the record has it: 0 where the body does not leave it free
abbrev pub own_update : Body → ℕ → ℕ
own_update AreaPage u = u
own_update PlacePage u = u
own_update CancelPage u = u
own_update SafetyDetails u = u
own_update NoInformation u = 0
