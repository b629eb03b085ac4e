-- What a turn of a loop does to a sum, a count or a list that is filled. Assumes nothing.
use mathlib.Core.Path.{◌≡◌, refl, sym, ap, ap₂, ◌∙◌}
use mathlib.Core.Bool.{Bool, true, false, not, beq}
use mathlib.Core.Logic.{◌≢◌}
use mathlib.Core.List.{List, ◌∷◌}
use Prim.Native.Nat.{ℕ, ◌+◌, ◌≤◌, ◌<◌}
use native.Mathlib.Numerals.{add-one}
use native.Mathlib.Omega.{arith}
use lib.ListN.{length, get_or, set, drop, length-set, drop_of_length-le}
use lib.Dec.{eqb}
use borrow.Author.Tests.{eqb-true, eqb-false}
use lib.Seq.{drop-cons, ext_get_or, get_or-set_same, get_or-set_other}
use Rattle.gf2.specs.Polynomial.{◌⊕◌, add}
use Rattle.gf2.proofs.Sum.{xor-false, xor_assoc}
use Rattle.bits.specs.Bits.{digit}
use Rattle.dsc.specs.Code.{count, dist}
use Rattle.dsc.specs.CheckTable.{sum_over}

-- `a != b`
pub ne-xor : (a b : Bool) → not (beq a b) ≡ a ⊕ b
ne-xor false false = refl
ne-xor false true = refl
ne-xor true false = refl
ne-xor true true = refl

-- ---- along a list

pub next : {A : Type 0} (xs : List A) (i : ℕ) (d : A) → i < length xs → drop i xs ≡ get_or xs i d ∷ drop (i + 1) xs
next xs i d h = drop-cons xs i d h ∙ ap (λ n. get_or xs i d ∷ drop n xs) (sym (add-one i))

module _ (f : ℕ → Bool) (xs : List ℕ) (i : ℕ) where
  pub sum-next : (sum x total : Bool) → i < length xs → x ≡ f (get_or xs i 0) → sum ⊕ sum_over f (drop i xs) ≡ total
      → not (beq sum x) ⊕ sum_over f (drop (i + 1) xs) ≡ total
  sum-next sum x total h e inv =
      ap (◌⊕ sum_over f (drop (i + 1) xs)) (ne-xor sum x ∙ ap (sum ⊕◌) e)
      ∙ xor_assoc sum (f (get_or xs i 0)) (sum_over f (drop (i + 1) xs))
      ∙ sym (ap (λ l. sum ⊕ sum_over f l) (next xs i 0 h))
      ∙ inv

  pub sum_done : (sum total : Bool) → length xs ≤ i → sum ⊕ sum_over f (drop i xs) ≡ total → sum ≡ total
  sum_done sum total h inv = sym (ap (λ l. sum ⊕ sum_over f l) (drop_of_length-le xs h) ∙ xor-false sum) ∙ inv

  pub count_next : (n x total : ℕ) → i < length xs → x ≡ digit (f (get_or xs i 0)) → n + count f (drop i xs) ≡ total → n + x + count f (drop (i + 1) xs) ≡ total
  count_next n x total h e inv = omega (arith, ap (count f) (next xs i 0 h))

  pub count-done : (n total : ℕ) → length xs ≤ i → n + count f (drop i xs) ≡ total → n ≡ total
  count-done n total h inv = omega (arith, ap (count f) (drop_of_length-le xs h))

module _ (u w : List Bool) (i : ℕ) where
  pub dist-next : (n x total : ℕ) → i < length u → i < length w → x ≡ digit (not (beq (get_or u i false) (get_or w i false)))
      → n + dist (drop i u) (drop i w) ≡ total → n + x + dist (drop (i + 1) u) (drop (i + 1) w) ≡ total
  unfolding add
  dist-next n x total h k e inv =
      omega (arith, ap₂ dist (next u i false h) (next w i false k), ap digit (ne-xor (get_or u i false) (get_or w i false)))

  pub dist-done : (n total : ℕ) → length u ≤ i → length w ≤ i → n + dist (drop i u) (drop i w) ≡ total → n ≡ total
  unfolding add
  dist-done n total h k inv = omega (arith, ap₂ dist (drop_of_length-le u h) (drop_of_length-le w k))

-- ---- a list that is filled from the front

-- its first n elements, of size, are those of g; an element that is not there reads as d
pub record Filled {A : Type 0} (d : A) (size : ℕ) (g : ℕ → A) (n : ℕ) (xs : List A) : Type 0 where
  pub some : n ≤ size
  pub long : length xs ≡ size
  pub each : (k : ℕ) → k < n → get_or xs k d ≡ g k

module _ {A : Type 0} {d : A} {size : ℕ} {g : ℕ → A} {xs : List A} where
  pub filled_none : length xs ≡ size → Filled d size g 0 xs
  filled_none l = record { some = omega arith; long = l; each = λ k h. absurd (omega arith) }

  module _ {n : ℕ} (f : Filled d size g n xs) where
    pub filled_next : {v : A} → n < size → v ≡ g n → Filled d size g (n + 1) (set xs n v)
    filled_next {v} h e = record { some = omega arith; long = length-set xs n v ∙ f.long; each = λ k hk. go k hk (eqb k n) refl }
      where
        go : (k : ℕ) → k < n + 1 → (t : Bool) → eqb k n ≡ t → get_or (set xs n v) k d ≡ g k
        go k hk true q = let same = eqb-true k n q in ap (λ i. get_or (set xs n v) i d) same ∙ get_or-set_same xs n v d (omega arith) ∙ e ∙ sym (ap g same)
        go k hk false q = let ne : k ≢ n = eqb-false k n q in get_or-set_other xs n k v d ne ∙ f.each k (omega arith)

    pub filled-all : size ≤ n → (k : ℕ) → k < size → get_or xs k d ≡ g k
    filled-all h k hk = f.each k (omega arith)

-- filled with the elements of l
pub filled-list : {A : Type 0} {d : A} {size n : ℕ} {xs : List A} (l : List A) → Filled d size (λ k. get_or l k d) n xs → size ≤ n → length l ≡ size → xs ≡ l
filled-list {d} {xs} l f h e = ext_get_or d xs l (omega (arith, f.long)) (λ k hk. filled-all f h k (omega (arith, f.long)))
