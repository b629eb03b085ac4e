-- The shortened difference-set cyclic code (187,105). A word is a list of 187 bits, B17 to B203 in order: Bk is the coefficient
-- of x^(203 - k), so the list has the highest power first and nothing is reversed. No decoder is in here.
-- Assumes nothing.
use Rattle.std.specs.Prelude.{◌≡◌, Bool, true, not, ◌&&◌, List, [], ◌∷◌, ℕ, ◌+◌, length}
use Rattle.bits.specs.Bits.{digit}
use Rattle.gf2.specs.Polynomial.{add, mul, poly, remainder, check_bits}

-- the powers of x in the generator
unfoldable pub powers : List ℕ
powers = 82 ∷ 77 ∷ 76 ∷ 71 ∷ 67 ∷ 66 ∷ 56 ∷ 52 ∷ 48 ∷ 40 ∷ 36 ∷ 34 ∷ 24 ∷ 22 ∷ 18 ∷ 10 ∷ 4 ∷ 0 ∷ []

-- the 82 coefficients of the generator below its leading term x^82
unfoldable pub generator_low : List Bool
unfolding powers
generator_low = poly 82 powers

-- a code word: a multiple of the generator, of degree at most 186
pub record CodeWord (w : List Bool) : Type 0 where
  pub multiplier : List Bool
  pub size : length multiplier ≡ 105
  pub multiple : w ≡ mul generator_low multiplier

-- ---- counting

module _ {A : Type 0} where
  abbrev pub count : (A → Bool) → List A → ℕ
  count f [] = 0
  count f (x ∷ xs) = digit (f x) + count f xs

-- how many bits of a word are 1
abbrev pub weight : List Bool → ℕ
weight w = count (λ b. b) w

-- in how many places two words of as many bits differ
abbrev pub dist : List Bool → List Bool → ℕ
dist u w = weight (add u w)

-- ---- a test and the encoder, by division

unfoldable pub all_zero : List Bool → Bool
all_zero [] = true
all_zero (b ∷ w) = not b && all_zero w

-- nothing remains when the 187 bits are divided by the generator
unfoldable pub is_code_word : List Bool → Bool
is_code_word w = all_zero (remainder generator_low 105 w)

-- the parity of a message of 105 bits, B122 to B203: what remains of the message times x^82
unfoldable pub parity_of : List Bool → List Bool
parity_of m = check_bits generator_low m
