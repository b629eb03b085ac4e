-- Reading numbers out of text, in ASCII. Assumes nothing.
use Rattle.std.specs.Prelude.{Bool, true, false, cond, ◌&&◌, List, [], ◌∷◌, ℕ, ◌+◌, ◌-◌, ◌*◌, eqb, leb, ltb, Option, Some, None}
use Rattle.decimals.specs.declared.Number.{Number}

-- the second text begins with the first
unfoldable pub starts_with : List ℕ → List ℕ → Bool
starts_with [] s = true
starts_with (a ∷ t) [] = false
starts_with (a ∷ t) (b ∷ s) = eqb a b && starts_with t s

abbrev pub is_digit : ℕ → Bool
is_digit b = leb 48 b && leb b 57

-- a number of k digits
abbrev pub number : (v k : ℕ) → Option Number
number v k = Some (record { value = v; bytes = k })

-- the number that k digits of the value v, and those that s begins with, make up: none where it has more than 64 bits
unfoldable pub digits_from : (v k : ℕ) → List ℕ → Option Number
digits_from v k [] = number v k
digits_from v k (b ∷ s) =
    cond (is_digit b)
    (cond (ltb (10 * v + (b - 48)) 18446744073709551616) (digits_from (10 * v + (b - 48)) (k + 1) s) None)
    (number v k)

-- the plain decimal number that s begins with, and how many digits it has: where the first one is 0 there is no other
unfoldable pub decimal_at : List ℕ → Option Number
decimal_at [] = None
decimal_at (b ∷ s) = cond (eqb b 48) (number 0 1) (cond (is_digit b) (digits_from (b - 48) 1 s) None)
