-- Arithmetic finds each field value in its image again. Assumes nothing.
use mathlib.Core.Path.{◌≡◌, refl, subst}
use mathlib.Core.Bool.{Bool, true, false, not, ◌&&◌}
use Prim.Native.Nat.{ℕ, ◌≤◌}
use native.Mathlib.Omega.{arith}
use lib.Dec.{T, eqb, eqb→eq}
use lib.IntN.{pos}
use lib.Ieee.{Float, nan, inf, fin, binary64, of_int, div, mul, neg, lt, to_bits, to_unsigned, fits, is_nan}
use lib.Ieee.Fits.{of_int-fits, div-fits, mul-fits, neg-fits}
use Rattle.bits.proofs.Computed.{and_left, and_right, below, below_at}
use Rattle.place.specs.Degrees.{whole, tenths, degrees_of, kilometres_of}
use Rattle.place.specs.Candidate.{truncated, tenths_near}
use Rattle.place.proofs.Equality.{bits-inj}

-- a finite number without a minus
abbrev pub plus : Float → Bool
plus nan = false
plus (inf s) = false
plus (fin s m e) = not s

abbrev pub finite : Float → Bool
finite nan = false
finite (inf s) = false
finite (fin s m e) = true

-- ---- one computed test for every field value

multiplies : ℕ → Bool
unfolding whole tenths of_int div mul to_bits
multiplies n = eqb (to_bits binary64 (mul binary64 (tenths n) (whole 10))) (to_bits binary64 (whole n))

truncates : ℕ → Bool
unfolding whole of_int truncated lt to_unsigned
truncates n = eqb (truncated (whole n)) n

positive : ℕ → Bool
unfolding whole tenths of_int div
positive n = plus (tenths n) && plus (whole n)

test : ℕ → Bool
test n = multiplies n && (truncates n && positive n)

tested : T (below 1801 test)
unfolding test multiplies truncates positive below
tested = tt

module _ (n : ℕ) (h : n ≤ 1800) where
  passed : T (test n)
  passed = below_at 1801 test tested n (omega arith)

  -- the tenths as a double, multiplied by ten, are the number again
  pub multiplied : mul binary64 (tenths n) (whole 10) ≡ whole n
  unfolding test multiplies whole
  multiplied =
      bits-inj _ _ (mul-fits binary64 (tenths n) (whole 10)) (of_int-fits binary64 (pos n))
      (eqb→eq _ _ (and_left (multiplies n) _ passed))

  pub truncated-whole : truncated (whole n) ≡ n
  unfolding test truncates
  truncated-whole = eqb→eq _ _ (and_left (truncates n) _ (and_right (multiplies n) _ passed))

  pub tenths-plus : T (plus (tenths n))
  unfolding test positive
  tenths-plus = and_left (plus (tenths n)) _ (and_right (truncates n) _ (and_right (multiplies n) _ passed))

  pub whole-plus : T (plus (whole n))
  unfolding test positive
  whole-plus = and_right (plus (tenths n)) _ (and_right (truncates n) _ (and_right (multiplies n) _ passed))

-- ---- negation

pub neg-neg : (x : Float) → neg (neg x) ≡ x
unfolding neg
neg-neg nan = refl
neg-neg (inf true) = refl
neg-neg (inf false) = refl
neg-neg (fin true m e) = refl
neg-neg (fin false m e) = refl

plus-finite : (x : Float) → T (plus x) → T (finite x)
plus-finite (fin s m e) p = tt
plus-finite (inf s) p = absurd p
plus-finite nan p = absurd p

neg-finite : (x : Float) → T (finite x) → T (finite (neg x))
unfolding neg
neg-finite (fin s m e) p = tt
neg-finite (inf s) p = p
neg-finite nan p = p

pub finite_number : (x : Float) → T (finite x) → T (not (is_nan x))
unfolding is_nan
finite_number (fin s m e) p = tt
finite_number (inf s) p = tt
finite_number nan p = p

pub plus-not-neg : (x y : Float) → T (plus x) → T (plus y) → x ≡ neg y → ⊥
unfolding neg
plus-not-neg x (fin false m e) p q h = subst (λ (v : Float). T (plus v)) h p
plus-not-neg x (fin true m e) p q h = absurd q
plus-not-neg x (inf s) p q h = absurd q
plus-not-neg x nan p q h = absurd q

-- ---- the images of the numbers up to the limit are finite doubles, and `near` finds the number in each

pub record Inverse (image : ℕ → Float) (near : Float → ℕ) (limit : ℕ) : Type 0 where
  pub fitting : (n : ℕ) → n ≤ limit → T (fits binary64 (image n))
  pub bounded : (n : ℕ) → n ≤ limit → T (finite (image n))
  pub back : (n : ℕ) → n ≤ limit → near (image n) ≡ n

pub kilometres-inverse : Inverse kilometres_of truncated 1023
unfolding whole
kilometres-inverse =
    record {
      fitting = λ n h. of_int-fits binary64 (pos n);
      bounded = λ n h. plus-finite (whole n) (whole-plus n (omega arith));
      back = λ n h. truncated-whole n (omega arith);
    }

tenths-fitting : (n : ℕ) → T (fits binary64 (tenths n))
unfolding tenths
tenths-fitting n = div-fits binary64 _ _

module _ (limit : ℕ) (l : limit ≤ 1800) (flag : ℕ) where
  tenths-inverse-by : (b : Bool) → eqb flag 1 ≡ b → Inverse (degrees_of flag) (tenths_near flag) limit
  unfolding degrees_of tenths_near
  tenths-inverse-by true e =
      record {
        fitting = λ n h. rw e (neg-fits binary64 (tenths n) (tenths-fitting n));
        bounded = λ n h. rw e (neg-finite (tenths n) (plus-finite (tenths n) (tenths-plus n (omega arith))));
        back = λ n h. rw (e, neg-neg (tenths n), multiplied n (omega arith)) (truncated-whole n (omega arith));
      }
  tenths-inverse-by false e =
      record {
        fitting = λ n h. rw e (tenths-fitting n);
        bounded = λ n h. rw e (plus-finite (tenths n) (tenths-plus n (omega arith)));
        back = λ n h. rw (e, multiplied n (omega arith)) (truncated-whole n (omega arith));
      }

  pub tenths-inverse : Inverse (degrees_of flag) (tenths_near flag) limit
  tenths-inverse = tenths-inverse-by (eqb flag 1) refl
