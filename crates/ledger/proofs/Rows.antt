-- A part of a list, element by element as code spells it out. Assumes nothing.
use mathlib.Core.Path.{◌≡◌, refl, sym, ap, ◌∙◌}
use mathlib.Core.List.{List, [], ◌∷◌}
use Prim.Native.Nat.{ℕ, zero, suc, ◌+◌, ◌≤◌}
use native.Mathlib.Omega.{arith}
use lib.ListN.{length, take, drop, get_or}
use lib.Seq.{drop-cons, take_all}

-- n elements from index i on
abbrev pub row : List ℕ → (i n : ℕ) → List ℕ
row v i zero = []
row v i (suc n) = get_or v i 0 ∷ row v (suc i) n

pub row-part : (v : List ℕ) (i n : ℕ) → i + n ≤ length v → row v i n ≡ take n (drop i v)
row-part v i zero h = refl
row-part v i (suc n) h =
    ap (get_or v i 0 ∷◌) (row-part v (suc i) n (omega arith)) ∙ ap (take (suc n)) (sym (drop-cons v i 0 (omega arith)))

pub row-all : (v : List ℕ) (n : ℕ) → length v ≡ n → row v 0 n ≡ v
row-all v n e = row-part v 0 n (omega arith) ∙ take_all n v (omega arith)
