-- A word in a frame. Assumes nothing.
use Rattle.std.specs.Prelude.{Bool, List, ◌++◌}
use Rattle.gf2.specs.Polynomial.{zeros}

-- the 208 bits of a frame that holds the word w at B17 to B203 and 0 elsewhere
abbrev pub padded : List Bool → List Bool
padded w = zeros 17 ++ (w ++ zeros 4)
