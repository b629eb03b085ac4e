-- `place_images::degrees` meets its contract. Assumes nothing.
use Rattle.std.proofs.Common.{◌≡◌, ℕ, eq-eqb, ne_eqb}
use lib.Ieee.{Float, binary64, div, neg, of_bits, of_int}
use Rattle.place.specs.Degrees.{whole, tenths, degrees_of}
use Rattle.place_images.proofs.degrees.Goals as goal

-- `place_images::degrees` meets its contract. Assumes nothing.
-- the image of tenths, for v the number as a double
module _ (flag n : ℕ) (v : Float) (e : v ≡ whole n) where
  image-negated : flag ≡ 1 → neg (div binary64 v (whole 10)) ≡ degrees_of flag n
  unfolding degrees_of tenths
  image-negated h = rw (e, eq-eqb flag 1 h)

  image-plain : (flag ≡ 1 → ⊥) → div binary64 v (whole 10) ≡ degrees_of flag n
  unfolding degrees_of tenths
  image-plain h = rw (e, ne_eqb flag 1 h)

pub returns-then-flag-eq1 : goal.returns-then-flag-eq1
unfolding whole of_int of_bits
returns-then-flag-eq1 c = image-negated _ _ _ c.nearest_u64_to_f64-quotient.ensures c.if-flag-eq1.true

pub returns-else-flag-eq1 : goal.returns-else-flag-eq1
unfolding whole of_int of_bits
returns-else-flag-eq1 c = image-plain _ _ _ c.nearest_u64_to_f64-quotient.ensures c.if-flag-eq1.false
