-- Code words by division: a word is one exactly if nothing remains. Assumes nothing.
use mathlib.Core.Path.{◌≡◌, refl, sym, ap, ap₂, ◌∙◌}
use mathlib.Core.Bool.{Bool, true, false, false≢true}
use mathlib.Core.List.{List, [], ◌∷◌, ◌++◌}
use Prim.Native.Nat.{ℕ, zero, suc, ◌+◌}
use lib.ListN.{length, length-append}
use Rattle.gf2.specs.Polynomial.{zeros, poly, member, remainder, quotient, check_bits}
use Rattle.gf2.proofs.Division.{length-remainder, length-mul, length-quotient, length-check, remainder-mul, mul-quotient, check-word, check-only}
use Rattle.dsc.specs.Code.{powers, generator_low, CodeWord, all_zero, is_code_word, parity_of}

pub length-low : length generator_low ≡ 82
unfolding generator_low powers poly member
length-low = refl

pub all-zeros : (n : ℕ) → all_zero (zeros n) ≡ true
unfolding all_zero
all-zeros zero = refl
all-zeros (suc n) = all-zeros n

pub zeros-all : (w : List Bool) → all_zero w ≡ true → w ≡ zeros (length w)
unfolding all_zero
zeros-all [] e = refl
zeros-all (true ∷ w) e = absurd (false≢true e)
zeros-all (false ∷ w) e = ap (false ∷◌) (zeros-all w e)

module _ (c : List Bool) (k : CodeWord c) where
  pub length-word : length c ≡ 187
  length-word = ap length k.multiple ∙ length-mul generator_low k.multiplier ∙ ap₂ ◌+◌ k.size length-low

  pub word-remainder : remainder generator_low 105 c ≡ zeros 82
  word-remainder = ap₂ (remainder generator_low) (sym k.size) k.multiple ∙ remainder-mul generator_low k.multiplier ∙ ap zeros length-low

  pub word-tested : is_code_word c ≡ true
  unfolding is_code_word
  word-tested = ap all_zero word-remainder ∙ all-zeros 82

module _ (w : List Bool) (h : length w ≡ 187) where
  long : length w ≡ 105 + length generator_low
  long = h ∙ ap (105 +◌) (sym length-low)

  pub divided-word : remainder generator_low 105 w ≡ zeros 82 → CodeWord w
  divided-word e =
      record {
        multiplier = quotient generator_low 105 w;
        size = length-quotient generator_low 105 w long;
        multiple = mul-quotient generator_low 105 w long (e ∙ ap zeros (sym length-low));
      }

  pub tested-word : is_code_word w ≡ true → CodeWord w
  unfolding is_code_word
  tested-word e =
      divided-word (zeros-all (remainder generator_low 105 w) e ∙ ap zeros (length-remainder generator_low 105 w long ∙ length-low))

-- ---- the encoder: a message with its parity is a code word, and with no other 82 bits

module _ (m : List Bool) (h : length m ≡ 105) where
  pub length-parity : length (parity_of m) ≡ 82
  unfolding parity_of
  length-parity = length-check generator_low m ∙ length-low

  pub parity-remainder : remainder generator_low 105 (m ++ zeros 82) ≡ parity_of m
  unfolding parity_of check_bits
  parity-remainder = sym (ap₂ (λ k n. remainder generator_low k (m ++ zeros n)) h length-low)

  pub parity-word : CodeWord (m ++ parity_of m)
  unfolding parity_of
  parity-word =
      divided-word (m ++ parity_of m) (length-append m (parity_of m) ∙ ap₂ ◌+◌ h length-parity)
      (ap (λ k. remainder generator_low k (m ++ parity_of m)) (sym h) ∙ check-word generator_low m ∙ ap zeros length-low)

  pub parity-only : (r : List Bool) → length r ≡ 82 → CodeWord (m ++ r) → r ≡ parity_of m
  unfolding parity_of
  parity-only r l k =
      check-only generator_low m r (l ∙ sym length-low)
      (ap (λ n. remainder generator_low n (m ++ r)) h ∙ word-remainder (m ++ r) k ∙ ap zeros (sym length-low))
