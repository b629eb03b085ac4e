-- The one number whose image a double can be, found by arithmetic; its image is then compared. No promise speaks of it. Assumes nothing.
use Rattle.std.specs.Prelude.{true, false, cond, ℕ, eqb, pos, Float}
use Rattle.std.specs.Float.{fin, binary64}
use Rattle.std.specs.Float.Ieee.{mul, neg, lt, to_unsigned}
use Rattle.place.specs.Degrees.{whole}

-- the whole part, where it is a u64; elsewhere a number that no field has
unfoldable pub truncated : Float → ℕ
truncated x = cond (lt (fin true 1 (pos 0)) x) (cond (lt x (fin false 1 (pos 64))) (to_unsigned 64 x) 65535) 65535

-- the tenths of a degree, when the flag 1 has negated them
unfoldable pub tenths_near : (flag : ℕ) → Float → ℕ
tenths_near flag x = truncated (mul binary64 (cond (eqb flag 1) (neg x) x) (whole 10))
