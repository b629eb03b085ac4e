-- The promises hold. Assumes nothing.
use mathlib.Core.Path.{◌≡◌, refl, sym, ap, subst}
use mathlib.Core.Bool.{Bool, true, false}
use mathlib.Core.Logic.{◌⊎◌, inl, inr}
use Prim.Native.Nat.{ℕ, ◌≤◌}
use native.Mathlib.Omega.{arith}
use lib.Dec.{T}
use lib.IntN.{pos}
use lib.Ieee.{Float, nan, inf, fin, binary64, of_int, div, neg, to_bits, fits, is_nan}
use lib.Ieee.Fits.{inf-fits}
use Rattle.place.specs.Degrees.{whole, tenths, degrees_of, kilometres_of, place_of}
use Rattle.place.specs.Desk.{Allowed, same_bits, SameBits, conversion_of, conversion_number, conversion_fields}
use Rattle.place.specs.Promises.{HasDouble, Imaged, Degrees}
use Rattle.place.specs.declared.Place.{Place}
use Rattle.place.specs.declared.Fields.{Fields}
use Rattle.place.specs.declared.Conversion.{Conversion}
use Rattle.place.specs.declared.Conversion.TheVariants.{Converted, Refused}
use Rattle.place.proofs.Equality.{same-equal, same-itself}
use Rattle.place.proofs.Inverse.{Inverse, plus, finite, finite_number, multiplied, whole-plus, kilometres-inverse, tenths-inverse}
use Rattle.place.proofs.Places.{Answered, placed, unplaced, answered, one_place}

-- ---- a place's answer is one of the two, and each only where it is due

module _ (p : Place) where
  placed_by : (c : Conversion) → Answered p c → (f : Fields) → c ≡ Converted f → Allowed f × SameBits p (place_of f)
  placed_by c (placed g a s) f e = let i : g ≡ f = cc in subst (λ (h : Fields). Allowed h × SameBits p (place_of h)) i (a, s)
  placed_by c (unplaced none) f e = let z : ◌≡◌ {A = ℕ} 0 1 = cc in absurd (omega arith)

  placed-as : (c : Conversion) → Answered p c → (f : Fields) → Allowed f → SameBits p (place_of f) → c ≡ Converted f
  placed-as c (placed g a s) f b t = ap Converted (one_place p g f a b s t)
  placed-as c (unplaced none) f b t = absurd (none f b t)

  zero-only-by : (c : Conversion) → Answered p c → conversion_number c ≡ 0 → Imaged p
  zero-only-by c (placed f a s) e = record { of = f; allowed = a; same = s }
  zero-only-by c (unplaced none) e = absurd (omega arith)

  eleven-by : (c : Conversion) → Answered p c → (Imaged p → ⊥) → conversion_number c ≡ 11
  eleven-by c (placed f a s) none = absurd (none (record { of = f; allowed = a; same = s }))
  eleven-by c (unplaced none) due = refl

  eleven-only-by : (c : Conversion) → Answered p c → conversion_number c ≡ 11 → Imaged p → ⊥
  eleven-only-by c (placed f a s) e i = omega arith
  eleven-only-by c (unplaced none) e i = none i.of i.allowed i.same

  either-by : (c : Conversion) → Answered p c → (conversion_number c ≡ 0) ⊎ (conversion_number c ≡ 11)
  either-by c (placed f a s) = inl refl
  either-by c (unplaced none) = inr refl

  refused-by : (c : Conversion) → Answered p c → conversion_number c ≡ 11 → c ≡ Refused 11
  refused-by c (placed f a s) e = absurd (omega arith)
  refused-by c (unplaced none) e = refl

-- ---- a place comes back

images-same : {image : ℕ → Float} {near : Float → ℕ} {limit : ℕ} → Inverse image near limit → (n : ℕ) → n ≤ limit → T (same_bits (image n) (image n))
images-same {image} inverse n h = same-itself (image n) (finite_number (image n) (inverse.bounded n h))

place_same : (f : Fields) → Allowed f → SameBits (place_of f) (place_of f)
place_same f a =
    record {
      latitude = images-same (tenths-inverse 900 (omega arith) f.south) f.latitude a.latitude;
      longitude = images-same (tenths-inverse 1800 (omega arith) f.west) f.longitude a.longitude;
      depth = images-same kilometres-inverse f.depth a.depth;
    }

-- ---- doubles that are no image

-- a place is refused if no finite double has the bits of one of its doubles
module _ (x : Float) (none : (y : Float) → T (fits binary64 y) → T (finite y) → T (same_bits x y) → ⊥) where
  no-image : {image : ℕ → Float} {near : Float → ℕ} {limit : ℕ} → Inverse image near limit → (n : ℕ) → n ≤ limit → (v : Float) → v ≡ x → T (same_bits v (image n)) → ⊥
  no-image {image} inverse n h v e t =
      none (image n) (inverse.fitting n h) (inverse.bounded n h) (subst (λ (y : Float). T (same_bits y (image n))) e t)

  eleven-with : (p : Place) → HasDouble x p → conversion_number (conversion_of p) ≡ 11
  eleven-with p has = eleven-by p _ (answered p) (λ i. unplaced-with has i.of i.allowed i.same)
    where
      unplaced-with : HasDouble x p → (f : Fields) → Allowed f → SameBits p (place_of f) → ⊥
      unplaced-with (inl e) f a s = no-image (tenths-inverse 900 (omega arith) f.south) f.latitude a.latitude _ e s.latitude
      unplaced-with (inr (inl e)) f a s = no-image (tenths-inverse 1800 (omega arith) f.west) f.longitude a.longitude _ e s.longitude
      unplaced-with (inr (inr e)) f a s = no-image kilometres-inverse f.depth a.depth _ e s.depth

not-nan : (y : Float) → T (fits binary64 y) → T (finite y) → T (same_bits nan y) → ⊥
unfolding same_bits is_nan
not-nan y f b t = t

not_infinite : (s : Bool) (y : Float) → T (fits binary64 y) → T (finite y) → T (same_bits (inf s) y) → ⊥
not_infinite s y f b t = subst (λ (v : Float). T (finite v)) (sym (same-equal (inf s) y (inf-fits binary64 s) f t)) b

no-minus-zero-depth : (n : ℕ) → n ≤ 1023 → T (same_bits (fin true 0 (pos 0)) (kilometres_of n)) → ⊥
unfolding fits
no-minus-zero-depth n h t =
    subst (λ (v : Float). T (plus v)) (sym (same-equal (fin true 0 (pos 0)) (whole n) tt (kilometres-inverse.fitting n h) t)) (whole-plus n (omega arith))

-- ---- single numbers

three : to_bits binary64 (tenths 3) ≡ 4599075939470750515
unfolding tenths whole of_int div to_bits
three = refl

southern : degrees_of 1 0 ≡ fin true 0 (pos 0)
unfolding degrees_of tenths whole of_int div neg
southern = refl

northern : degrees_of 0 0 ≡ fin false 0 (pos 0)
unfolding degrees_of tenths whole of_int div neg
northern = refl

pub degrees-laws : Degrees
degrees-laws =
    record {
      multiplied-back = multiplied;
      three-tenths = three;
      southern-zero = southern;
      northern-zero = northern;
      back-again = λ f a. placed-as (place_of f) _ (answered (place_of f)) f a (place_same f a);
      placed-only = λ p. placed_by p _ (answered p);
      placed = λ p. placed-as p _ (answered p);
      fields_told = λ p f a s. ap conversion_fields (placed-as p _ (answered p) f a s);
      zero-there = λ p i. ap conversion_number (placed-as p _ (answered p) i.of i.allowed i.same);
      zero-only-there = λ p. zero-only-by p _ (answered p);
      eleven-elsewhere = λ p. eleven-by p _ (answered p);
      eleven-only-elsewhere = λ p. eleven-only-by p _ (answered p);
      zero-or-eleven = λ p. either-by p _ (answered p);
      refused = λ p. refused-by p _ (answered p);
      nan-refused = eleven-with nan not-nan;
      infinite-refused = λ p s. eleven-with (inf s) (not_infinite s) p;
      depth-minus-zero-refused =
          λ p e. eleven-by p _ (answered p) (λ i. no-minus-zero-depth i.of.depth i.allowed.depth (subst (λ (v : Float). T (same_bits v (kilometres_of i.of.depth))) e i.same.depth));
    }
