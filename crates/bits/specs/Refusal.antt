-- Tables of refusals, tested in order. A line is a number, and a test that is true where the refusal is to be
-- given, so that a line reads as the table's "Given exactly when".
-- Assumes nothing.
use Rattle.std.specs.Prelude.{◌≡◌, Bool, true, false, cond, ◌&&◌, List, [], ◌∷◌, ◌++◌, map, ℕ, eqb, ltb}

-- the number of the first refusal that is given; 0 where none is
unfoldable pub first_refusal : List (ℕ × Bool) → ℕ
first_refusal [] = 0
first_refusal ((n, given) ∷ ts) = cond given n (first_refusal ts)

-- the numbers of a table, in their order
abbrev pub test_numbers : List (ℕ × Bool) → List ℕ
test_numbers = map (λ t. t.0)

-- the first table's answer if it refuses, otherwise the second's
abbrev pub or_else : ℕ → ℕ → ℕ
or_else m n = cond (eqb m 0) n m

-- no refusal of the table is given
abbrev pub NoneGiven : List (ℕ × Bool) → Type 0
NoneGiven [] = Unit {0}
NoneGiven ((n, given) ∷ ts) = (given ≡ false) × NoneGiven ts

-- refusal n is given, and none of those before it
pub record GivenFirst (ts : List (ℕ × Bool)) (n : ℕ) : Type 0 where
  pub before : List (ℕ × Bool)
  pub after : List (ℕ × Bool)
  pub is : ts ≡ before ++ (n, true) ∷ after
  pub none : NoneGiven before

-- no line has the number 0, which says that nothing is refused
abbrev pub numbered : List (ℕ × Bool) → Bool
numbered [] = true
numbered ((n, given) ∷ ts) = ltb 0 n && numbered ts
