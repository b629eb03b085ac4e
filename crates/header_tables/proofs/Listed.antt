-- A table of 26 values, 25 of them the same. Assumes nothing.
use mathlib.Core.Path.{◌≡◌, sym, ap₂, ◌∙◌}
use mathlib.Core.List.{List, [], ◌∷◌, ◌++◌}
use Prim.Native.Nat.{ℕ}
use native.Mathlib.Omega.{arith}
use lib.ListN.{length, get_or, take, replicate, take-append-drop, drop_of_length-le}
use lib.Seq.{drop-cons}

-- 25 values that are one and a last one, as the AC bits are tabled
pub listed : (x y : ℕ) (v : List ℕ) → length v ≡ 26 → take 25 v ≡ replicate 25 x → get_or v 25 0 ≡ y → v ≡ replicate 25 x ++ y ∷ []
listed x y v l e q =
    sym (take-append-drop 25 v)
    ∙ ap₂ (λ (a b : List ℕ). a ++ b) e (drop-cons v 25 0 (omega arith) ∙ ap₂ (λ (n : ℕ) (w : List ℕ). n ∷ w) q (drop_of_length-le v {i = 26} (omega arith)))
