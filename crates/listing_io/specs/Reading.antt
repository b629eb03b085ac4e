-- A turn of the program. Assumes nothing.
use Rattle.std.specs.Prelude.{◌≡◌, List, ℕ, ◌≤◌, length, take, drop, Option, None, Some, ⊤}
use Rattle.frame.specs.declared.Edition.{Edition}
use Rattle.listing.specs.declared.Pieces.{Pieces}
use Rattle.listing_turns.specs.Turns.{turn_of, turn_after, piece_of, buffer_after}
use Rattle.listing_turns.specs.declared.Turn.{Turn}

-- the turn t after another: the bytes that were read, at most so many as were wanted, stand at the start of the input buffer; the answer and the text buffer,
-- which held out₀, are those of the turn that lists them
pub record TurnMade (ed : Edition) (p : Pieces) (before : Turn) (input out₀ out : List ℕ) (t : Turn) : Type 0 where
  pub got : ℕ
  pub most : got ≤ before.wanted
  pub told : t ≡ turn_of ed p before.listed (take got input) (length out₀)
  pub text : out ≡ buffer_after ed p before.listed (take got input) out₀

-- the same of a reader whose bytes are known: where s is left of them, the turn is the one that the program makes of s, and what it reads is gone
abbrev pub Follows : Edition → Pieces → (before : Turn) (old new : Option (List ℕ)) (out₀ out : List ℕ) (t : Turn) → Type 0
Follows ed p before None new out₀ out t = ⊤
Follows ed p before (Some s) new out₀ out t =
    (t ≡ turn_after ed p before s out₀) × (out ≡ buffer_after ed p before.listed (piece_of before s) out₀) × (new ≡ Some (drop before.wanted s))
