-- Field values as doubles (document 01, "The place in degrees"), in the terms of IEEE 754. Assumes nothing.
use Rattle.std.specs.Prelude.{cond, ℕ, eqb, pos, Float}
use Rattle.std.specs.Float.{binary64}
use Rattle.std.specs.Float.Ieee.{of_int, div, neg}
use Rattle.place.specs.declared.Place.{Place}
use Rattle.place.specs.declared.Fields.{Fields}

-- a whole number as a double
unfoldable pub whole : ℕ → Float
whole n = of_int binary64 (pos n)

-- the tenths as a double divided by ten, rounded once
unfoldable pub tenths : ℕ → Float
tenths n = div binary64 (whole n) (whole 10)

-- the image of a latitude or longitude in tenths: the flag 1, south or west, negates the quotient, so that a southern 0 is minus zero
unfoldable pub degrees_of : (flag n : ℕ) → Float
degrees_of flag n = cond (eqb flag 1) (neg (tenths n)) (tenths n)

-- the image of a depth: the kilometres as a double
abbrev pub kilometres_of : ℕ → Float
kilometres_of n = whole n

-- the image of field values
abbrev pub place_of : Fields → Place
place_of f =
    record {
      latitude = degrees_of f.south f.latitude;
      longitude = degrees_of f.west f.longitude;
      depth = kilometres_of f.depth;
    }
