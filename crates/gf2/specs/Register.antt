-- The shift register that divides by x^n + g, a bit of the dividend at a time.
-- Assumes nothing.
use Rattle.std.specs.Prelude.{Bool, false, List, [], ◌∷◌, ◌++◌}
use Rattle.gf2.specs.Polynomial.{◌⊕◌, add, scale}

-- one bit into the register: it is added to the bit that leaves at the top, which takes g away where it is set
unfoldable pub step : List Bool → List Bool → Bool → List Bool
step g [] b = []
step g (h ∷ t) b = add (scale (h ⊕ b) g) (t ++ (false ∷ []))

-- the bits m into the register r, first bit first
unfoldable pub feed : List Bool → List Bool → List Bool → List Bool
feed g r [] = r
feed g r (b ∷ m) = feed g (step g r b) m
