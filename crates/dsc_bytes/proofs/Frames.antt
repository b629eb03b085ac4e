-- Words in a frame's bits and bytes, by index. Assumes nothing.
use mathlib.Core.Path.{◌≡◌, refl, ap, ◌∙◌}
use mathlib.Core.Bool.{Bool, true, false}
use mathlib.Core.List.{List, ◌++◌}
use Prim.Native.Nat.{ℕ, ◌+◌, ◌-◌, ◌≤◌, ◌<◌}
use native.Mathlib.Nat.{lt_of_lt_of_le}
use native.Mathlib.Omega.{arith}
use lib.Dec.{eqb}
use lib.ListN.{length, take, drop, length-append, get_or-replicate, get_or-append}
use lib.Pow.{pow_mono}
use lib.Seq.{get_or-append-add, get_or-take, get_or-drop}
use Rattle.bits.specs.Bits.{digit, value, bits}
use Rattle.bits.proofs.Bits.{value-take-lt}
use Rattle.gf2.specs.Polynomial.{zeros}
use Rattle.dsc.specs.Repair.{protected}
use Rattle.dsc_bits.specs.Words.{at}
use Rattle.dsc_bits.proofs.Octets.{zeros-at}
use Rattle.dsc_bytes.specs.Padded.{padded}

pub digit_set : (b : Bool) → eqb (digit b) 1 ≡ b
unfolding digit
digit_set true = refl
digit_set false = refl

-- bit n of the protected part is B(17 + n)
pub protected-at : (f : List ℕ) (n : ℕ) → n < 187 → at (protected f) n ≡ at (bits f) (17 + n)
unfolding protected
protected-at f n h = get_or-take 187 (drop 17 (bits f)) n false h ∙ get_or-drop 17 (bits f) n false

module _ (w : List Bool) (h : length w ≡ 187) where
  pub padded-before : (k : ℕ) → k < 17 → at (padded w) k ≡ false
  padded-before k l = get_or-append (zeros 17) (w ++ zeros 4) false k l ∙ get_or-replicate 17 k false false l

  pub padded-word : (n : ℕ) → n < 187 → at (padded w) (17 + n) ≡ at w n
  padded-word n l = get_or-append-add (zeros 17) (w ++ zeros 4) n false ∙ get_or-append w (zeros 4) false n (omega arith)

  pub padded-after : (k : ℕ) → 204 ≤ k → at (padded w) k ≡ false
  padded-after k l =
      ap (at (padded w)) (let e : k ≡ 17 + (length w + (k - 204)) = omega arith in e)
      ∙ get_or-append-add (zeros 17) (w ++ zeros 4) (length w + (k - 204)) false
      ∙ get_or-append-add w (zeros 4) (k - 204) false
      ∙ zeros-at 4 (k - 204)

  pub length-padded : length (padded w) ≡ 208
  length-padded = length-append (zeros 17) (w ++ zeros 4) ∙ ap (17 +◌) (length-append w (zeros 4) ∙ ap (◌+ 4) h)

pub value-small : (l : List Bool) (i : ℕ) → i < 8 → value (take i l) < 128
value-small l i h = lt_of_lt_of_le (value-take-lt i l) (pow_mono {j = 7} (omega arith))

-- what the goals of padded_bit ask
pub ruleset around = (padded-before, padded-word, padded-after)
