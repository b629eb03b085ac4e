-- How many bits of a word are 1: of a row of words, and of the bits of a number. Assumes nothing.
use mathlib.Core.Path.{◌≡◌, refl, sym, ap, ap₂, ◌∙◌}
use mathlib.Core.Bool.{Bool}
use mathlib.Core.List.{List, [], ◌∷◌, ◌++◌}
use Prim.Native.Nat.{ℕ, zero, suc, ◌+◌, ◌/◌, ◌%◌, ◌^◌, ◌<◌}
use native.Mathlib.Nat.{mod-eq_of_lt, mod-one, mod-lt}
use native.Mathlib.Omega.{arith}
use lib.Count.{ones, ones_cat}
use lib.Pow.{pow_pos, mod-pow-add}
use Rattle.bits.specs.Bits.{digit, odd, bits_of}
use Rattle.bits.proofs.Bits.{digit-odd}
use Rattle.gf2.specs.Polynomial.{zeros}
use Rattle.dsc.specs.Code.{weight}

pub weight-zeros : (n : ℕ) → weight (zeros n) ≡ 0
unfolding digit
weight-zeros zero = refl
weight-zeros (suc n) = omega (arith, weight-zeros n)

pub weight-append : (x y : List Bool) → weight (x ++ y) ≡ weight x + weight y
weight-append [] y = omega arith
weight-append (a ∷ x) y = omega (arith, weight-append x y)

ones-digit : (x : ℕ) → x < 2 → ones x ≡ x
unfolding ones
ones-digit zero h = refl
ones-digit (suc zero) h = refl
ones-digit (suc (suc x)) h = absurd (omega arith)

pub weight-bits_of : (k v : ℕ) → weight (bits_of k v) ≡ ones (v % 2 ^ k)
unfolding bits_of
weight-bits_of zero v = sym (ap ones (mod-one v) ∙ ones-digit 0 (omega arith))
weight-bits_of (suc k) v =
    let first : digit (odd (v / 2 ^ k)) ≡ ones (v / 2 ^ k % 2) =
    digit-odd (v / 2 ^ k) ∙ sym (ones-digit (v / 2 ^ k % 2) (omega arith)) in
    ap₂ ◌+◌ first (weight-bits_of k v)
    ∙ sym
    (ap (λ n. ones (v % 2 ^ n)) (let e : suc k ≡ 1 + k = omega arith in e)
    ∙ ap ones (mod-pow-add v 1 k)
    ∙ ones_cat k (v / 2 ^ k % 2) (v % 2 ^ k) (mod-lt v (pow_pos k)))

pub weight-whole : (k v : ℕ) → v < 2 ^ k → weight (bits_of k v) ≡ ones v
weight-whole k v h = weight-bits_of k v ∙ ap ones (mod-eq_of_lt h)
