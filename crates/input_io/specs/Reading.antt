-- What a read gives. Assumes nothing.
use Rattle.std.specs.Prelude.{◌≡◌, List, ℕ, Option, None, Some, ⊤, take, drop}

-- of what a reader has left, where that is known, w bytes, or all where there are fewer; and what it has left then
abbrev pub Takes : (old new : Option (List ℕ)) (w : ℕ) (bytes : List ℕ) → Type 0
Takes None new w bytes = ⊤
Takes (Some s) new w bytes = (bytes ≡ take w s) × (new ≡ Some (drop w s))
