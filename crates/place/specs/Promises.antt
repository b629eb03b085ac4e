-- What this crate promises, in document 01's words. The record has one value, proved in proofs/Promises.antt. Assumes nothing.
use Rattle.std.specs.Prelude.{◌≡◌, Bool, true, false, ◌⊎◌, ℕ, ◌≤◌, pos, Float}
use Rattle.std.specs.Float.{nan, inf, fin, binary64}
use Rattle.std.specs.Float.Ieee.{mul, to_bits}
use Rattle.place.specs.Degrees.{whole, tenths, degrees_of, place_of}
use Rattle.place.specs.Desk.{Allowed, SameBits, conversion_of, conversion_number, field_list, conversion_fields}
use Rattle.place.specs.declared.Place.{Place}
use Rattle.place.specs.declared.Fields.{Fields}
use Rattle.place.specs.declared.Conversion.TheVariants.{Converted, Refused}

-- one of the place's doubles is x
abbrev pub HasDouble : Float → Place → Type 0
HasDouble x p = (p.latitude ≡ x) ⊎ ((p.longitude ≡ x) ⊎ (p.depth ≡ x))

-- each of the place's doubles has the very bits of an allowed field value's image
pub record Imaged (p : Place) : Type 0 where
  pub of : Fields
  pub allowed : Allowed of
  pub same : SameBits p (place_of of)

pub record Degrees : Type 0 where
  -- for every whole number 0 to 1800 the double, multiplied by ten, is that number again
  pub multiplied-back : (n : ℕ) → n ≤ 1800 → mul binary64 (tenths n) (whole 10) ≡ whole n
  -- three tenths are 0x3fd3333333333333; three times the double 0.1 would be the next double
  pub three-tenths : to_bits binary64 (tenths 3) ≡ 4599075939470750515
  -- a southern 0 is minus zero
  pub southern-zero : degrees_of 1 0 ≡ fin true 0 (pos 0)
  pub northern-zero : degrees_of 0 0 ≡ fin false 0 (pos 0)
  -- field values, as doubles and back, are the same, with their flags
  pub back-again : (f : Fields) → Allowed f → conversion_of (place_of f) ≡ Converted f
  -- a place becomes field values only where each double has the very bits of an allowed field value's image
  pub placed-only : (p : Place) (f : Fields) → conversion_of p ≡ Converted f → Allowed f × SameBits p (place_of f)
  -- and becomes them wherever each has
  pub placed : (p : Place) (f : Fields) → Allowed f → SameBits p (place_of f) → conversion_of p ≡ Converted f
  -- the fields that are told are then these
  pub fields_told : (p : Place) (f : Fields) → Allowed f → SameBits p (place_of f) → conversion_fields (conversion_of p) ≡ field_list f
  -- the number is 0 exactly where there are such field values, otherwise 11, and no other
  pub zero-there : (p : Place) → Imaged p → conversion_number (conversion_of p) ≡ 0
  pub zero-only-there : (p : Place) → conversion_number (conversion_of p) ≡ 0 → Imaged p
  pub eleven-elsewhere : (p : Place) → (Imaged p → ⊥) → conversion_number (conversion_of p) ≡ 11
  pub eleven-only-elsewhere : (p : Place) → conversion_number (conversion_of p) ≡ 11 → Imaged p → ⊥
  pub zero-or-eleven : (p : Place) → (conversion_number (conversion_of p) ≡ 0) ⊎ (conversion_number (conversion_of p) ≡ 11)
  -- 11 is told of the refusal alone
  pub refused : (p : Place) → conversion_number (conversion_of p) ≡ 11 → conversion_of p ≡ Refused 11
  -- NaN and infinities are 11 too, and the depth minus zero
  pub nan-refused : (p : Place) → HasDouble nan p → conversion_number (conversion_of p) ≡ 11
  pub infinite-refused : (p : Place) (s : Bool) → HasDouble (inf s) p → conversion_number (conversion_of p) ≡ 11
  pub depth-minus-zero-refused : (p : Place) → p.depth ≡ fin true 0 (pos 0) → conversion_number (conversion_of p) ≡ 11
