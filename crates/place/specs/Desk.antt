-- The desk's place, three doubles, as field values (document 01, "The place in degrees"). Assumes nothing.
use Rattle.std.specs.Prelude.{Bool, cond, not, ◌&&◌, List, [], ◌∷◌, ℕ, zero, suc, ◌≤◌, T, eqb, Float, Option, Some, None}
use Rattle.std.specs.Float.{binary64}
use Rattle.std.specs.Float.Ieee.{to_bits, is_nan}
use Rattle.place.specs.Degrees.{degrees_of, kilometres_of}
use Rattle.place.specs.declared.Place.{Place}
use Rattle.place.specs.declared.Fields.{Fields}
use Rattle.place.specs.declared.Conversion.{Conversion}
use Rattle.place.specs.declared.Conversion.TheVariants.{Converted, Refused}
use Rattle.place.specs.declared.SignedTenths.{SignedTenths}

-- the field values that a place may have, in tenths of a degree and kilometres
pub record Allowed (f : Fields) : Type 0 where
  pub south : f.south ≤ 1
  pub latitude : f.latitude ≤ 900
  pub west : f.west ≤ 1
  pub longitude : f.longitude ≤ 1800
  pub depth : f.depth ≤ 1023

-- two doubles have the very same bits. A NaN has many bit patterns, none of which is a field value's image, so it has nobody's bits.
unfoldable pub same_bits : Float → Float → Bool
same_bits x y = not (is_nan x) && (not (is_nan y) && eqb (to_bits binary64 x) (to_bits binary64 y))

-- so have the three doubles of two places
pub record SameBits (p q : Place) : Type 0 where
  pub latitude : T (same_bits p.latitude q.latitude)
  pub longitude : T (same_bits p.longitude q.longitude)
  pub depth : T (same_bits p.depth q.depth)

-- the number below n whose image has the very bits of x
unfoldable pub seek : (image : ℕ → Float) (n : ℕ) → Float → Option ℕ
seek image zero x = None
seek image (suc k) x = cond (same_bits x (image k)) (Some k) (seek image k x)

-- the value of no more than the limit
abbrev pub value_of : (image : ℕ → Float) (limit : ℕ) → Float → Option ℕ
value_of image limit x = seek image (suc limit) x

-- a value with its flag: without it, or else with it
abbrev pub either_sign : Option ℕ → Option ℕ → Option SignedTenths
either_sign (Some n) v = Some (record { flag = 0; tenths = n })
either_sign None (Some n) = Some (record { flag = 1; tenths = n })
either_sign None None = None

unfoldable pub signed_of : (limit : ℕ) → Float → Option SignedTenths
signed_of limit x = either_sign (value_of (degrees_of 0) limit x) (value_of (degrees_of 1) limit x)

-- all three, or refusal 11
abbrev pub joined : (latitude longitude : Option SignedTenths) (depth : Option ℕ) → Conversion
joined (Some a) (Some b) (Some k) = Converted (record { south = a.flag; latitude = a.tenths; west = b.flag; longitude = b.tenths; depth = k })
joined (Some a) (Some b) None = Refused 11
joined (Some a) None d = Refused 11
joined None l d = Refused 11

-- what `fields_of` answers
unfoldable pub conversion_of : Place → Conversion
conversion_of p = joined (signed_of 900 p.latitude) (signed_of 1800 p.longitude) (value_of kilometres_of 1023 p.depth)

-- document 01's number and values of an answer: 0 with south, latitude, west, longitude and depth, or the refusal's number and nothing else
abbrev pub conversion_number : Conversion → ℕ
conversion_number (Converted f) = 0
conversion_number (Refused n) = n

abbrev pub field_list : Fields → List ℕ
field_list f = f.south ∷ f.latitude ∷ f.west ∷ f.longitude ∷ f.depth ∷ []

abbrev pub conversion_fields : Conversion → List ℕ
conversion_fields (Converted f) = field_list f
conversion_fields (Refused n) = []
