-- The cases of the definitions, as the functions come to them. Assumes nothing.
use Rattle.std.proofs.Common.{◌≡◌, ℕ, true, false, pos, eq-eqb, ne_eqb}
use lib.Ieee.{Float, fin, binary64, mul, neg, lt, to_unsigned}
use Rattle.place.specs.Degrees.{whole}
use Rattle.place.specs.Candidate.{truncated, tenths_near}

-- ---- the number near x

module _ (flag k : ℕ) (x : Float) where
  pub near-negated : flag ≡ 1 → k ≡ truncated (mul binary64 (neg x) (whole 10)) → k ≡ tenths_near flag x
  unfolding tenths_near
  near-negated h e = rw (eq-eqb flag 1 h) e

  pub near-plain : (flag ≡ 1 → ⊥) → k ≡ truncated (mul binary64 x (whole 10)) → k ≡ tenths_near flag x
  unfolding tenths_near
  near-plain h e = rw (ne_eqb flag 1 h) e

-- ---- the whole part

module _ (x : Float) where
  pub truncated-inside : lt (fin true 1 (pos 0)) x ≡ true → lt x (fin false 1 (pos 64)) ≡ true → to_unsigned 64 x ≡ truncated x
  unfolding truncated
  truncated-inside e f = rw (e, f)

  pub truncated-above : lt (fin true 1 (pos 0)) x ≡ true → lt x (fin false 1 (pos 64)) ≡ false → 65535 ≡ truncated x
  unfolding truncated
  truncated-above e f = rw (e, f)

  pub truncated-below : lt (fin true 1 (pos 0)) x ≡ false → 65535 ≡ truncated x
  unfolding truncated
  truncated-below e = rw e
