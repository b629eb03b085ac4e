-- `test_values::bits_of` meets its contract: what differs from itself is a NaN. Assumes nothing.
use mathlib.Core.Path.{◌≡◌, ◌∙◌, refl, sym, ap, subst}
use mathlib.Core.Bool.{Bool, true, false, not}
use lib.Dec.{T}
use lib.Ieee.{Float, nan, inf, fin, eq, ne, is_nan, binary64, to_bits}
use lib.Ieee.Compare.{differs_from_itself}
use Rattle.test_values.proofs.bits_of.Goals as goal

-- `test_values::bits_of` meets its contract: what differs from itself is a NaN. Assumes nothing.
number : (x : Float) → eq x x ≡ true → T (not (is_nan x))
unfolding eq is_nan
number nan e = let z : false ≡ true = e in subst T (sym z) tt
number (inf s) e = tt
number (fin s m d) e = tt

nan-bits : 0x7FF8000000000000 ≡ to_bits binary64 nan
unfolding to_bits
nan-bits = refl

no_number : (x : Float) → eq x x ≡ false → 0x7FF8000000000000 ≡ to_bits binary64 x
unfolding ne
no_number x e = nan-bits ∙ ap (to_bits binary64) (sym (differs_from_itself x (subst (λ (b : Bool). T (not b)) (sym e) tt)))

pub float_to_bits-result : goal.float_to_bits-result
float_to_bits-result c = number _ c.if-x.true

pub returns : goal.returns
returns c = no_number _ c.if-x.false
