-- Doubles with the very same bits. Assumes nothing.
use mathlib.Core.Path.{◌≡◌, ◌∙◌, refl, sym, ap, subst}
use mathlib.Core.Bool.{Bool, true, false, not, and-false}
use lib.Dec.{T, eqb, eqb→eq}
use lib.Ieee.{Float, nan, inf, fin, binary64, to_bits, of_bits, fits, is_nan, eq, ne}
use lib.Ieee.Bits.{of_bits-to_bits}
use lib.Ieee.Compare.{differs_from_itself}
use lib.Ieee.Fits.{and_i, eq→eqb}
use Rattle.bits.proofs.Computed.{and_right, T_not}
use Rattle.place.specs.Desk.{same_bits}

pub passes : {b : Bool} → b ≡ true → T b
passes e = subst T (sym e) tt

pub fails : {b : Bool} → b ≡ false → T b → ⊥
fails e t = subst T e t

-- two values that fit and have one bit pattern are one value
pub bits-inj : (x y : Float) → T (fits binary64 x) → T (fits binary64 y) → to_bits binary64 x ≡ to_bits binary64 y → x ≡ y
bits-inj x y f g e = sym (of_bits-to_bits binary64 x f) ∙ ap (of_bits binary64) e ∙ of_bits-to_bits binary64 y g

pub same-to_bits : (x y : Float) → T (same_bits x y) → to_bits binary64 x ≡ to_bits binary64 y
unfolding same_bits
same-to_bits x y t = eqb→eq _ _ (and_right (not (is_nan y)) _ (and_right (not (is_nan x)) _ t))

pub same-equal : (x y : Float) → T (fits binary64 x) → T (fits binary64 y) → T (same_bits x y) → x ≡ y
same-equal x y f g t = bits-inj x y f g (same-to_bits x y t)

pub same-itself : (x : Float) → T (not (is_nan x)) → T (same_bits x x)
unfolding same_bits
same-itself x r =
    let e : T (eqb (to_bits binary64 x) (to_bits binary64 x)) = eq→eqb {a = to_bits binary64 x} {b = to_bits binary64 x} refl in
    and_i (not (is_nan x)) _ r (and_i (not (is_nan x)) _ r e)

-- two values with the bits of a third are one value
pub same-both : (x y z : Float) → T (fits binary64 y) → T (fits binary64 z) → T (same_bits x y) → T (same_bits x z) → y ≡ z
same-both x y z f g s t = bits-inj y z f g (sym (same-to_bits x y s) ∙ same-to_bits x z t)

-- ---- the test for a NaN: only a number equals itself

pub number : (x : Float) → eq x x ≡ true → T (not (is_nan x))
unfolding eq is_nan
number nan e = let z : false ≡ true = e in subst T (sym z) tt
number (inf s) e = tt
number (fin s m d) e = tt

no_number : (x : Float) → eq x x ≡ false → x ≡ nan
unfolding ne
no_number x e = differs_from_itself x (rw e tt)

module _ (x y : Float) where
  pub same_numbers : eq x x ≡ true → eq y y ≡ true → eqb (to_bits binary64 x) (to_bits binary64 y) ≡ same_bits x y
  unfolding same_bits
  same_numbers e f = rw (T_not (is_nan x) (number x e), T_not (is_nan y) (number y f))

  pub nan-unlike : eq x x ≡ false → false ≡ same_bits x y
  unfolding same_bits is_nan
  nan-unlike e = rw (no_number x e)

  pub unlike-nan : eq y y ≡ false → false ≡ same_bits x y
  unfolding same_bits is_nan
  unlike-nan e = rw (no_number y e, and-false)
