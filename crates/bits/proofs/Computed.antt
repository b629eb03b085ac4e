-- Tests that antt computes, and what they come to at each number and at each entry of a table. Assumes nothing.
use mathlib.Core.Path.{◌≡◌, refl, sym, ap, ◌∙◌}
use mathlib.Core.Bool.{Bool, true, false, not, ◌&&◌, beq}
use mathlib.Core.Logic.{◌≢◌}
use mathlib.Core.List.{List, [], ◌∷◌}
use Prim.Native.Nat.{ℕ, zero, suc, ◌+◌, ◌<◌}
use native.Mathlib.Omega.{arith}
use lib.Dec.{T, eqb, ltb, eqb→eq}
use lib.ListN.{length, get_or}
use borrow.Author.Tests.{eq-eqb, ne_eqb, eqb-true, eqb-false}

-- ---- a test's answer

pub and_left : (a b : Bool) → T (a && b) → T a
and_left true b t = tt
and_left false b t = t

pub and_right : (a b : Bool) → T (a && b) → T b
and_right true b t = t
and_right false b t = absurd t

pub T_not : (b : Bool) → T (not b) → b ≡ false
T_not true t = absurd t
T_not false t = refl

pub T-same : (a b : Bool) → T (beq a b) → a ≡ b
T-same true true t = refl
T-same true false t = absurd t
T-same false true t = absurd t
T-same false false t = refl

-- two tests of equality that decide the same
pub eqb_same : (a b c d : ℕ) → (a ≡ b → c ≡ d) → (c ≡ d → a ≡ b) → eqb a b ≡ eqb c d
eqb_same a b c d f g = go (eqb a b) refl
  where
    go : (t : Bool) → eqb a b ≡ t → eqb a b ≡ eqb c d
    go true e = e ∙ sym (eq-eqb c d (f (eqb-true a b e)))
    go false e = e ∙ sym (ne_eqb c d (λ h. eqb-false a b e (g h)))

-- ---- at each number

-- the test passes at each number below n
unfoldable pub below : ℕ → (ℕ → Bool) → Bool
below zero f = true
below (suc n) f = f n && below n f

pub below_at : (n : ℕ) (f : ℕ → Bool) → T (below n f) → (k : ℕ) → k < n → T (f k)
unfolding below
below_at zero f t k h = absurd (omega arith)
below_at (suc n) f t k h = go (below_at n f (and_right (f n) (below n f) t) k) (eqb k n) refl
  where
    go : (k < n → T (f k)) → (b : Bool) → eqb k n ≡ b → T (f k)
    go ih true e = rw (eqb-true k n e) (and_left (f n) (below n f) t)
    go ih false e = let ne : k ≢ n = eqb-false k n e in ih (omega arith)

-- each number of the list is below n
abbrev pub all_below : ℕ → List ℕ → Bool
all_below n [] = true
all_below n (d ∷ ds) = ltb d n && all_below n ds

-- ---- at each entry of a table

-- the entries from place k on are as the rule f says
abbrev pub obeys : (ℕ → ℕ) → ℕ → List ℕ → Bool
obeys f k [] = true
obeys f k (x ∷ xs) = eqb x (f k) && obeys f (suc k) xs

from : (f : ℕ → ℕ) (k : ℕ) (xs : List ℕ) → T (obeys f k xs) → (i : ℕ) → i < length xs → get_or xs i 0 ≡ f (k + i)
from f k [] t i h = absurd (omega arith)
from f k (x ∷ xs) t zero h = let e : k ≡ k + 0 = omega arith in eqb→eq x (f k) (and_left (eqb x (f k)) (obeys f (suc k) xs) t) ∙ ap f e
from f k (x ∷ xs) t (suc i) h =
    let e : suc k + i ≡ k + suc i = omega arith in
    from f (suc k) xs (and_right (eqb x (f k)) (obeys f (suc k) xs) t) i (omega arith) ∙ ap f e

pub at_each : (f : ℕ → ℕ) (xs : List ℕ) → T (obeys f 0 xs) → (i : ℕ) → i < length xs → get_or xs i 0 ≡ f i
at_each f xs t i h = let e : 0 + i ≡ i = omega arith in from f 0 xs t i h ∙ ap f e
