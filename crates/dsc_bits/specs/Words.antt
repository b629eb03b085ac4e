-- Rows of bits by index. Assumes nothing.
use Rattle.std.specs.Prelude.{Bool, false, List, ℕ, get_or}

-- element i of a row of bits
abbrev pub at : List Bool → ℕ → Bool
at f i = get_or f i false
