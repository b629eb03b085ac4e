-- Values put into a list. No promise speaks of them. Assumes nothing.
use Rattle.std.specs.Prelude.{List, ℕ, length}
use Rattle.std.proofs.Math.Seq.{paste}

-- the list o with the values of s from number k on
unfoldable pub placed : (o : List ℕ) (k : ℕ) (s : List ℕ) → List ℕ
placed o k s = paste o k s (length s)
