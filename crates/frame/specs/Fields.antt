-- A record's fields: as a list, their widths, and the record of a body's values; and its origin, which no rule looks at (document 02, j). Assumes nothing.
use Rattle.std.specs.Prelude.{◌≡◌, List, [], ◌∷◌, Bool, false, not, ◌||◌, ℕ, ◌-◌, ltb, get_or, set, replicate}
use Rattle.bits.specs.Layout.{fitb}
use Rattle.bits.specs.Segment.{free_widths}
use Rattle.frame.specs.Identification.{class_of}
use Rattle.frame.specs.declared.Edition.{Edition}
use Rattle.frame.specs.declared.Body.{Body}
use Rattle.frame.specs.declared.Body.TheVariants.{AreaPage, PlacePage, CancelPage, SafetyDetails, NoInformation}
use Rattle.frame.specs.Body.{body_of, layout, indices, own_update}
use Rattle.frame.specs.declared.Tuner.TheVariants as tuner
use Rattle.frame.specs.declared.Origin.{Origin}
use Rattle.frame.specs.declared.Record.{Record}

-- how many fields of a record stand in its frame
abbrev pub field_count : ℕ
field_count = 19

-- all fields but its origin, which is the tuner and the number of repaired places
abbrev pub fields : Record → List ℕ
fields r =
    r.reference ∷ r.pattern ∷ r.identification ∷ r.update ∷ r.time ∷ r.page ∷ r.areas ∷ r.total ∷ r.item ∷ r.number ∷ r.kind ∷ r.south ∷ r.latitude
    ∷ r.west ∷ r.longitude ∷ r.depth ∷ r.occurred ∷ r.broadcaster ∷ r.region ∷ []

-- of a record that was read from no frame: no tuner, nothing repaired
abbrev pub no_origin : Origin
no_origin = record { tuner = tuner.None; repaired = 0 }

-- the record that has these fields, from that origin
unfoldable pub record_from : Origin → List ℕ → Record
record_from o v =
    record {
      reference = get_or v 0 0;
      pattern = get_or v 1 0;
      identification = get_or v 2 0;
      update = get_or v 3 0;
      time = get_or v 4 0;
      page = get_or v 5 0;
      areas = get_or v 6 0;
      total = get_or v 7 0;
      item = get_or v 8 0;
      number = get_or v 9 0;
      kind = get_or v 10 0;
      south = get_or v 11 0;
      latitude = get_or v 12 0;
      west = get_or v 13 0;
      longitude = get_or v 14 0;
      depth = get_or v 15 0;
      occurred = get_or v 16 0;
      broadcaster = get_or v 17 0;
      region = get_or v 18 0;
      origin = o;
    }

-- the record, from another origin
abbrev pub with_origin : Origin → Record → Record
with_origin o r = record_from o (fields r)

-- two records are the same in all fields but the tuner and the number of repaired places
abbrev pub SameFields : Record → Record → Type 0
SameFields r s = fields r ≡ fields s

-- the elements of f at the indices ks
unfoldable pub gather : (ks f : List ℕ) → List ℕ
gather [] f = []
gather (k ∷ ks) f = get_or f k 0 ∷ gather ks f

-- f with the values vs at the indices ks
unfoldable pub scatter : (ks vs f : List ℕ) → List ℕ
scatter [] vs f = f
scatter (k ∷ ks) [] f = f
scatter (k ∷ ks) (v ∷ vs) f = scatter ks vs (set f k v)

-- a number for each field of the record: those that stand before the details, and 0 for every other
abbrev pub before_details : Body → (reference pattern identification update : ℕ) → List ℕ
before_details b x p i u = x ∷ p ∷ i ∷ own_update b u ∷ replicate (field_count - 4) 0

-- and with the numbers us for the fields that the body holds
abbrev pub in_fields : Body → (reference pattern identification update : ℕ) → List ℕ → List ℕ
in_fields b x p i u us = scatter (indices b) us (before_details b x p i u)

-- how many bits each field has in a body; 0 where the identification, page and kind do not leave it free
unfoldable pub field_widths : Body → List ℕ
field_widths b = in_fields b 1 1 3 2 (free_widths (layout b))

-- what a record puts into the fields of a body
unfoldable pub body_values : Body → Record → List ℕ
body_values b r = gather (indices b) (fields r)

-- the record of the values us that stand in a body's fields, with the reference, the pattern, the identification and the update; it has no origin yet
unfoldable pub record_of : Body → (reference pattern identification update : ℕ) → List ℕ → Record
record_of b x p i u us = record_from no_origin (in_fields b x p i u us)

-- the body that a record has, by the edition named
abbrev pub record_body : Edition → Record → Body
record_body ed r = body_of (class_of ed r.identification) r.page r.kind

-- a field is wider than its place, or not 0 where none is left free
abbrev pub too_wide : Edition → Record → Bool
too_wide ed r = not (fitb (field_widths (record_body ed r)) (fields r))

-- page 1, kind 0: latitude or longitude is over its limit, in tenths of a degree
abbrev pub over_limit : Body → (latitude longitude : ℕ) → Bool
over_limit AreaPage latitude longitude = false
over_limit PlacePage latitude longitude = ltb 900 latitude || ltb 1800 longitude
over_limit CancelPage latitude longitude = false
over_limit SafetyDetails latitude longitude = false
over_limit NoInformation latitude longitude = false
