-- Sums of coefficients and of polynomials. Assumes nothing.
use mathlib.Core.Path.{◌≡◌, refl, sym, ap, ap₂, ◌∙◌}
use mathlib.Core.Bool.{Bool, true, false, ◌&&◌}
use mathlib.Core.List.{List, [], ◌∷◌, ◌++◌}
use Prim.Native.Nat.{ℕ, zero, suc, ◌+◌, ◌≤◌, ◌<◌}
use native.Mathlib.Nat.{le_of_suc-le-suc, not-suc-le-zero, suc_inj}
use native.Mathlib.Omega.{arith}
use lib.ListN.{length, get_or, length-replicate, get_or-replicate, replicate-append-replicate}
use Rattle.gf2.specs.Polynomial.{◌⊕◌, zeros, add, scale}

-- ---- coefficients

pub xor-false : (a : Bool) → a ⊕ false ≡ a
xor-false true = refl
xor-false false = refl

pub xor_same : (a : Bool) → a ⊕ a ≡ false
xor_same true = refl
xor_same false = refl

pub xor_self : (a b : Bool) → a ⊕ (a ⊕ b) ≡ b
xor_self false b = refl
xor_self true false = refl
xor_self true true = refl

pub xor-none : (a b : Bool) → a ⊕ b ≡ false → a ≡ b
xor-none true true e = refl
xor-none true false e = e
xor-none false b e = sym e

pub xor_comm : (a b : Bool) → a ⊕ b ≡ b ⊕ a
xor_comm false false = refl
xor_comm false true = refl
xor_comm true false = refl
xor_comm true true = refl

pub xor_assoc : (a b c : Bool) → (a ⊕ b) ⊕ c ≡ a ⊕ (b ⊕ c)
xor_assoc false b c = refl
xor_assoc true false c = refl
xor_assoc true true false = refl
xor_assoc true true true = refl

pub xor-swap : (a b c : Bool) → a ⊕ (b ⊕ c) ≡ b ⊕ (a ⊕ c)
xor-swap a b c = sym (xor_assoc a b c) ∙ ap (◌⊕ c) (xor_comm a b) ∙ xor_assoc b a c

-- two sums, taken crosswise
pub xor-cross : (a b c d : Bool) → (a ⊕ b) ⊕ (c ⊕ d) ≡ (a ⊕ c) ⊕ (b ⊕ d)
xor-cross a b c d = xor_assoc a b (c ⊕ d) ∙ ap (a ⊕◌) (xor-swap b c d) ∙ sym (xor_assoc a c (b ⊕ d))

pub and_xor : (a b c : Bool) → (a ⊕ b) && c ≡ (a && c) ⊕ (b && c)
and_xor false b c = refl
and_xor true false false = refl
and_xor true false true = refl
and_xor true true false = refl
and_xor true true true = refl

-- ---- polynomials

pub length-add : (u w : List Bool) → length (add u w) ≡ length w
unfolding add
length-add [] w = refl
length-add (a ∷ u) [] = refl
length-add (a ∷ u) (b ∷ w) = ap suc (length-add u w)

pub length-scale : (b : Bool) (u : List Bool) → length (scale b u) ≡ length u
unfolding scale
length-scale true u = refl
length-scale false u = length-replicate (length u) false

pub scale-cons : (b : Bool) (u : List Bool) → scale b (true ∷ u) ≡ b ∷ scale b u
unfolding scale
scale-cons true u = refl
scale-cons false u = refl

pub add-zeros : (n : ℕ) (w : List Bool) → add (zeros n) w ≡ w
unfolding add
add-zeros zero w = refl
add-zeros (suc n) [] = refl
add-zeros (suc n) (b ∷ w) = ap (b ∷◌) (add-zeros n w)

pub add-to-zeros : (u : List Bool) → add u (zeros (length u)) ≡ u
unfolding add
add-to-zeros [] = refl
add-to-zeros (a ∷ u) = ap₂ ◌∷◌ (xor-false a) (add-to-zeros u)

pub add_same : (u : List Bool) → add u u ≡ zeros (length u)
unfolding add
add_same [] = refl
add_same (a ∷ u) = ap₂ ◌∷◌ (xor_same a) (add_same u)

pub scale-xor : (a b : Bool) (u : List Bool) → scale (a ⊕ b) u ≡ add (scale a u) (scale b u)
unfolding scale
scale-xor false b u = sym (add-zeros (length u) (scale b u))
scale-xor true false u = sym (add-to-zeros u)
scale-xor true true u = sym (add_same u)

pub add_none : (u w : List Bool) → length u ≡ length w → add u w ≡ zeros (length w) → u ≡ w
unfolding add
add_none [] [] h e = refl
add_none [] (b ∷ w) h e = absurd (omega arith)
add_none (a ∷ u) [] h e = absurd (omega arith)
add_none (a ∷ u) (b ∷ w) h e = ap₂ ◌∷◌ (xor-none a b cc) (add_none u w (suc_inj h) cc)

-- adding twice takes away
pub add-self : (u w : List Bool) → add u (add u w) ≡ w
unfolding add
add-self [] w = refl
add-self (a ∷ u) [] = refl
add-self (a ∷ u) (b ∷ w) = ap₂ ◌∷◌ (xor_self a b) (add-self u w)

pub add_assoc : (u v w : List Bool) → length u ≤ length v → add (add u v) w ≡ add u (add v w)
unfolding add
add_assoc [] v w h = refl
add_assoc (a ∷ u) [] w h = absurd (not-suc-le-zero h)
add_assoc (a ∷ u) (b ∷ v) [] h = refl
add_assoc (a ∷ u) (b ∷ v) (c ∷ w) h = ap₂ ◌∷◌ (xor_assoc a b c) (add_assoc u v w (le_of_suc-le-suc h))

pub add-swap : (u v w : List Bool) → add u (add v w) ≡ add v (add u w)
unfolding add
add-swap [] v w = refl
add-swap (a ∷ u) [] w = refl
add-swap (a ∷ u) (b ∷ v) [] = refl
add-swap (a ∷ u) (b ∷ v) (c ∷ w) = ap₂ ◌∷◌ (xor-swap a b c) (add-swap u v w)

pub add-append : (u v w x : List Bool) → length u ≡ length w → add (u ++ v) (w ++ x) ≡ add u w ++ add v x
unfolding add
add-append [] v [] x h = refl
add-append [] v (b ∷ w) x h = absurd (omega arith)
add-append (a ∷ u) v [] x h = absurd (omega arith)
add-append (a ∷ u) v (b ∷ w) x h = ap ((a ⊕ b) ∷◌) (add-append u v w x (suc_inj h))

-- zeros below u change no sum
pub add-shifted : (u : List Bool) (k : ℕ) (w : List Bool) → add (u ++ zeros k) w ≡ add u w
unfolding add
add-shifted [] k w = add-zeros k w
add-shifted (a ∷ u) k [] = refl
add-shifted (a ∷ u) k (b ∷ w) = ap ((a ⊕ b) ∷◌) (add-shifted u k w)

-- what stands below w is not reached by a shorter u
pub add-over : (u w z : List Bool) → length u ≤ length w → add u (w ++ z) ≡ add u w ++ z
unfolding add
add-over [] w z h = refl
add-over (a ∷ u) [] z h = absurd (not-suc-le-zero h)
add-over (a ∷ u) (b ∷ w) z h = ap ((a ⊕ b) ∷◌) (add-over u w z (le_of_suc-le-suc h))

pub add-to-more : (u : List Bool) (k : ℕ) → add u (zeros (length u + k)) ≡ u ++ zeros k
unfolding add
add-to-more u k = ap (add u) (sym (replicate-append-replicate (length u) k false)) ∙ front u
  where
    front : (u : List Bool) → add u (zeros (length u) ++ zeros k) ≡ u ++ zeros k
    front [] = refl
    front (a ∷ u) = ap₂ ◌∷◌ (xor-false a) (front u)

-- ---- by index

pub get_or-add : (u w : List Bool) (i : ℕ) → i < length w → get_or (add u w) i false ≡ get_or u i false ⊕ get_or w i false
unfolding add
get_or-add [] w i h = refl
get_or-add (a ∷ u) [] i h = absurd (not-suc-le-zero h)
get_or-add (a ∷ u) (b ∷ w) zero h = refl
get_or-add (a ∷ u) (b ∷ w) (suc i) h = get_or-add u w i (le_of_suc-le-suc h)

pub get_or-scale : (b : Bool) (u : List Bool) (i : ℕ) → i < length u → get_or u i false ≡ true → get_or (scale b u) i false ≡ b
unfolding scale
get_or-scale true u i h e = e
get_or-scale false u i h e = get_or-replicate (length u) i false false h
