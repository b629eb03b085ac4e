-- The check table: 273 rows of 17 places each. A place is an exponent of x; the places 187 to 272 hold 0.
-- Assumes nothing.
use Rattle.std.specs.Prelude.{◌≡◌, Bool, false, cond, List, [], ◌∷◌, map, ℕ, zero, suc, ◌+◌, ◌-◌, ◌*◌, ◌%◌, ◌<◌, eqb, length, get_or, take, drop}
use Rattle.gf2.specs.Polynomial.{◌⊕◌}
use Rattle.dsc.specs.Code.{count}

-- the difference set
unfoldable pub differences : List ℕ
differences = 0 ∷ 18 ∷ 24 ∷ 46 ∷ 50 ∷ 67 ∷ 103 ∷ 112 ∷ 115 ∷ 126 ∷ 128 ∷ 159 ∷ 166 ∷ 167 ∷ 186 ∷ 196 ∷ 201 ∷ []

-- the places of row s
abbrev pub row : ℕ → List ℕ
row s = map (λ d. (s + 273 - d) % 273) differences

-- the rows on which place p lies
abbrev pub rows_of : ℕ → List ℕ
rows_of p = map (λ d. (p + d) % 273) differences

-- what the shipped table has to be: entry i of row s, at 17 s + i, is the row's i-th place
pub record CheckTable (t : List ℕ) : Type 0 where
  pub size : length t ≡ 4641
  pub rule : (s i : ℕ) → s < 273 → i < 17 → get_or t (s * 17 + i) 0 ≡ (s + 273 - get_or differences i 0) % 273

-- row s of a table: its 17 places
abbrev pub row_at : List ℕ → ℕ → List ℕ
row_at t s = take 17 (drop (s * 17) t)

-- ---- the sums on the rows

-- the coefficient of x^p
abbrev pub coefficient : List Bool → ℕ → Bool
coefficient [] p = false
coefficient (b ∷ w) p = cond (eqb p (length w)) b (coefficient w p)

abbrev pub sum_over : (ℕ → Bool) → List ℕ → Bool
sum_over f [] = false
sum_over f (p ∷ ps) = f p ⊕ sum_over f ps

-- the sum of w on row s: the row fails where it is odd
abbrev pub syndrome : List Bool → ℕ → Bool
syndrome w s = sum_over (coefficient w) (row s)

-- n - 1 down to 0
abbrev pub upto : ℕ → List ℕ
upto zero = []
upto (suc n) = n ∷ upto n

-- how many of the 17 rows through place p fail
abbrev pub failures : List Bool → ℕ → ℕ
failures w p = count (syndrome w) (rows_of p)
