-- The lines of no piece, and of one more. Only these laws look into what lines are. Assumes nothing.
use mathlib.Core.Path.{◌≡◌, refl}
use mathlib.Core.List.{List, [], ◌++◌}
use Prim.Native.Nat.{ℕ, suc, ◌+◌}
use lib.ListN.{take, drop}
use Rattle.frame.specs.declared.Edition.{Edition}
use Rattle.listing.specs.Lines.{piece_size, verdict_of, line_of, lines}
use Rattle.listing.specs.declared.Pieces.{Pieces}

module _ (ed : Edition) (p : Pieces) where
  pub lines_none : (n : ℕ) (s : List ℕ) → lines ed p 0 n s ≡ []
  unfolding lines
  lines_none n s = refl

  pub lines_next : (k n : ℕ) (s : List ℕ)
      → lines ed p (suc k) n s ≡ line_of n (verdict_of ed p (take (piece_size p) s)) ++ lines ed p k (n + 1) (drop (piece_size p) s)
  unfolding lines
  lines_next k n s = refl
