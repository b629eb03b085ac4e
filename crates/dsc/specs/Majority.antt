-- One-step majority decoding: how an engine can find the code word. What the box promises (Repair, Promises) does not speak of it.
-- Assumes nothing.
use Rattle.std.specs.Prelude.{Bool, List, [], ◌∷◌, leb, length}
use Rattle.gf2.specs.Polynomial.{◌⊕◌}
use Rattle.dsc.specs.CheckTable.{failures}

-- the last bits w of r, each place flipped of whose 17 rows at least nine fail
abbrev pub flipped : List Bool → List Bool → List Bool
flipped r [] = []
flipped r (b ∷ w) = (b ⊕ leb 9 (failures r (length w))) ∷ flipped r w
