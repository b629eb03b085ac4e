-- Slices that are lent on, and rows of stores. Assumes nothing.
use mathlib.Core.Path.{◌≡◌, sym, ap, ap₂, ◌∙◌}
use mathlib.Core.List.{List, [], ◌∷◌, ◌++◌, append-nil}
use Prim.Native.Nat.{ℕ, suc, ◌+◌, ◌-◌, ◌<◌}
use native.Mathlib.Numerals.{add-one}
use native.Mathlib.Omega.{arith}
use lib.ListN.{length, get_or, set, take, drop, length-drop, drop_of_length-le}
use lib.Seq.{sets, take_all, take-suc, length-take-le}

-- what stands in w after a call that was lent the part from a on
pub rest-lent : {A : Type 0} (f : List A → List A) (w v last : List A) (a : ℕ) → last ≡ f (take (length w - a) (drop a w))
    → v ≡ take a w ++ (last ++ drop (length w - a) (drop a w)) → v ≡ take a w ++ f (drop a w)
rest-lent f w v last a e q =
    q
    ∙ ap₂ (λ x y. take a w ++ (x ++ y)) (e ∙ ap f (take_all (length w - a) (drop a w) (omega (arith, length-drop a w))))
    (drop_of_length-le (drop a w) {i = length w - a} (omega (arith, length-drop a w)))
    ∙ ap (take a w ++◌) (append-nil (f (drop a w)))

-- two texts stored one after the other are their concatenation stored
pub sets-append : (l : List ℕ) (i : ℕ) (s t : List ℕ) → sets (sets l i s) (i + length s) t ≡ sets l i (s ++ t)
sets-append l i [] t = let e : i + 0 ≡ i = omega arith in rw e
sets-append l i (a ∷ s) t = let e : i + suc (length s) ≡ suc i + length s = omega arith in rw e (sets-append (set l i a) (suc i) s t)

-- one element more of a text
pub sets-next : (l s : List ℕ) (i j : ℕ) → j < length s → set (sets l i (take j s)) (i + j) (get_or s j 0) ≡ sets l i (take (j + 1) s)
sets-next l s i j h =
    ap (λ n. set (sets l i (take j s)) (i + n) (get_or s j 0)) (sym (length-take-le j s (omega arith)))
    ∙ sets-append l i (take j s) (get_or s j 0 ∷ [])
    ∙ ap (sets l i) (sym (ap (λ n. take n s) (add-one j) ∙ take-suc s j 0 h))
