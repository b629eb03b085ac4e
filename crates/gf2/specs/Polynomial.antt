-- Polynomials over GF(2): lists of coefficients, highest power first, so that the head of n + 1 coefficients is that of x^n.
-- A divisor x^n + g, whose leading coefficient is 1, is given by its n lower coefficients g.
-- Assumes nothing.
use Rattle.std.specs.Prelude.{Bool, true, false, not, ◌||◌, List, [], ◌∷◌, ◌++◌, ℕ, zero, suc, eqb, length, replicate}

infixl 40 ◌⊕◌
-- the sum of two coefficients
abbrev pub ◌⊕◌ : Bool → Bool → Bool
false ⊕ b = b
true ⊕ b = not b

abbrev pub zeros : ℕ → List Bool
zeros n = replicate n false

unfoldable pub member : ℕ → List ℕ → Bool
member p [] = false
member p (q ∷ qs) = eqb p q || member p qs

-- the n coefficients of the polynomial of degree below n that has the given powers of x
unfoldable pub poly : ℕ → List ℕ → List Bool
poly zero ps = []
poly (suc n) ps = member n ps ∷ poly n ps

-- the sum of two polynomials with as many coefficients; a shorter u counts from the highest power of w
unfoldable pub add : List Bool → List Bool → List Bool
add [] w = w
add (a ∷ u) [] = []
add (a ∷ u) (b ∷ w) = (a ⊕ b) ∷ add u w

-- a coefficient times u
unfoldable pub scale : Bool → List Bool → List Bool
scale true u = u
scale false u = zeros (length u)

-- q times x^n + g: b x^k (x^n + g), added to what the k lower coefficients give
unfoldable pub mul : List Bool → List Bool → List Bool
mul g [] = zeros (length g)
mul g (b ∷ q) = add (scale b (true ∷ g)) (false ∷ mul g q)

-- long division of w by x^n + g, k steps of it: what remains of k + n coefficients
unfoldable pub remainder : List Bool → ℕ → List Bool → List Bool
remainder g zero w = w
remainder g (suc k) [] = []
remainder g (suc k) (b ∷ w) = remainder g k (add (scale b g) w)

-- and the quotient
unfoldable pub quotient : List Bool → ℕ → List Bool → List Bool
quotient g zero w = []
quotient g (suc k) [] = []
quotient g (suc k) (b ∷ w) = b ∷ quotient g k (add (scale b g) w)

-- the check bits of a message m: what remains of m x^n
unfoldable pub check_bits : List Bool → List Bool → List Bool
check_bits g m = remainder g (length m) (m ++ zeros (length g))
