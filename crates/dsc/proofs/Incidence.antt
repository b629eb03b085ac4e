-- Each place lies on 17 of the 273 rows, two places on one row together. Assumes nothing.
use mathlib.Core.Path.{◌≡◌, refl, sym, ap, ap₂, ◌∙◌}
use mathlib.Core.Bool.{Bool, true, false, not, ◌&&◌, ◌||◌, beq, and-true}
use mathlib.Core.Logic.{◌≢◌}
use mathlib.Core.List.{List, [], ◌∷◌, map}
use Prim.Native.Nat.{ℕ, zero, suc, ◌+◌, ◌-◌, ◌%◌, ◌≤◌, ◌<◌}
use native.Mathlib.Omega.{arith}
use lib.Dec.{eqb, ltb, T, ltb→lt}
use lib.ListN.{length}
use borrow.Author.Tests.{ne_eqb, eqb-true, eqb-false}
use Rattle.bits.proofs.Computed.{and_left, and_right, T_not, T-same, eqb_same, below, below_at, all_below}
use Rattle.gf2.specs.Polynomial.{◌⊕◌, member}
use Rattle.bits.specs.Bits.{digit}
use Rattle.dsc.specs.Code.{count}
use Rattle.dsc.specs.CheckTable.{upto, differences, row, rows_of, sum_over}
use Rattle.dsc.proofs.CheckRows.{sum-map, sum_same, differences-below, on_row, on_row-difference, is_difference, rows_same, shared-one}

-- ---- counts over 0 .. n - 1

pub count-upto : (n : ℕ) (f g : ℕ → Bool) → ((s : ℕ) → s < n → f s ≡ g s) → count f (upto n) ≡ count g (upto n)
count-upto zero f g e = refl
count-upto (suc n) f g e = ap₂ (λ b k. digit b + k) (e n (omega arith)) (count-upto n f g (λ s h. e s (omega arith)))

count-off : (n l : ℕ) (q : ℕ → Bool) → n ≤ l → count (λ s. eqb s l && q s) (upto n) ≡ 0
unfolding digit
count-off zero l q h = refl
count-off (suc n) l q h =
    ap (λ b. digit (b && q n) + count (λ s. eqb s l && q s) (upto n)) (ne_eqb n l (λ e. omega arith)) ∙ omega (arith, count-off n l q (omega arith))

count-one : (n l : ℕ) (q : ℕ → Bool) → l < n → count (λ s. eqb s l && q s) (upto n) ≡ digit (q l)
unfolding digit
count-one zero l q h = absurd (omega arith)
count-one (suc n) l q h = go (eqb n l) refl (count-one n l q)
  where
    go : (b : Bool) → eqb n l ≡ b → (l < n → count (λ s. eqb s l && q s) (upto n) ≡ digit (q l)) → digit (b && q n) + count (λ s. eqb s l && q s) (upto n) ≡ digit (q l)
    go true e ih = omega (arith, ap (λ s. digit (q s)) (eqb-true n l e), count-off n l q (omega (arith, eqb-true n l e)))
    go false e ih = let ne : n ≢ l = eqb-false n l e in omega (arith, ih (omega arith))

-- of two tests that never pass together
apart : (e x q : Bool) → e && x ≡ false → digit ((e ⊕ x) && q) ≡ digit (e && q) + digit (x && q)
unfolding digit
apart true true q h = let z : ◌≡◌ {A = ℕ} 0 1 = cc in absurd (omega arith)
apart true false true h = refl
apart true false false h = refl
apart false true true h = refl
apart false true false h = refl
apart false false q h = refl

count-apart : (n : ℕ) (e x q : ℕ → Bool) → ((s : ℕ) → e s && x s ≡ false)
    → count (λ s. (e s ⊕ x s) && q s) (upto n) ≡ count (λ s. e s && q s) (upto n) + count (λ s. x s && q s) (upto n)
count-apart zero e x q h = refl
count-apart (suc n) e x q h = omega (arith, apart (e n) (x n) (q n) (h n), count-apart n e x q h)

count-never : (n : ℕ) (q : ℕ → Bool) → count (λ s. false && q s) (upto n) ≡ 0
unfolding digit
count-never zero q = refl
count-never (suc n) q = omega (arith, count-never n q)

-- ---- the rows through p, as a part of all rows

-- no number stands twice in the list
abbrev distinct : List ℕ → Bool
distinct [] = true
distinct (d ∷ ds) = not (sum_over (eqb d) ds) && distinct ds

differences-distinct : T (distinct differences)
unfolding differences
differences-distinct = tt

module _ (p : ℕ) (hp : p < 273) (q : ℕ → Bool) where
  through : (ds : List ℕ) → T (all_below 273 ds) → T (distinct ds)
      → count (λ s. sum_over (eqb s) (map (λ d. (p + d) % 273) ds) && q s) (upto 273) ≡ count q (map (λ d. (p + d) % 273) ds)
  through [] t f = count-never 273 q
  through (d ∷ ds) t f =
      count-apart 273 (λ s. eqb s l) (λ s. sum_over (eqb s) (map (λ d. (p + d) % 273) ds)) q once
      ∙ ap₂ ◌+◌ (count-one 273 l q (omega arith)) (through ds (and_right (ltb d 273) (all_below 273 ds) t) (and_right (not (sum_over (eqb d) ds)) (distinct ds) f))
    where
      l : ℕ
      l = (p + d) % 273

      hd : d < 273
      hd = ltb→lt d 273 (and_left (ltb d 273) (all_below 273 ds) t)

      not-again : sum_over (eqb l) (map (λ d. (p + d) % 273) ds) ≡ false
      not-again =
          sum-map (eqb l) (λ d. (p + d) % 273) ds
          ∙ sum_same 273 (λ d'. eqb l ((p + d') % 273)) (eqb d) ds (and_right (ltb d 273) (all_below 273 ds) t)
          (λ d' h. eqb_same l ((p + d') % 273) d d' (λ e. omega (arith, hd)) (λ e. omega arith))
          ∙ T_not (sum_over (eqb d) ds) (and_left (not (sum_over (eqb d) ds)) (distinct ds) f)

      once : (s : ℕ) → eqb s l && sum_over (eqb s) (map (λ d. (p + d) % 273) ds) ≡ false
      once s = go (eqb s l) refl
        where
          go : (b : Bool) → eqb s l ≡ b → b && sum_over (eqb s) (map (λ d. (p + d) % 273) ds) ≡ false
          go true e = ap (λ k. sum_over (eqb k) (map (λ d. (p + d) % 273) ds)) (eqb-true s l e) ∙ not-again
          go false e = refl

-- ---- membership in a row, and the sum over it

member-test : T (below 273 (λ u. beq (member u differences) (is_difference u)))
unfolding below is_difference differences member
member-test = tt

member-map : (p u : ℕ) (h : ℕ → ℕ) (ds : List ℕ) → T (all_below 273 ds) → ((d : ℕ) → d < 273 → eqb p (h d) ≡ eqb u d) → member p (map h ds) ≡ member u ds
unfolding member
member-map p u h [] t e = refl
member-map p u h (d ∷ ds) t e =
    ap₂ ◌||◌ (e d (ltb→lt d 273 (and_left (ltb d 273) (all_below 273 ds) t))) (member-map p u h ds (and_right (ltb d 273) (all_below 273 ds) t) e)

member-on_row : (s p : ℕ) → s < 273 → p < 273 → member p (row s) ≡ on_row s p
member-on_row s p hs hp =
    member-map p ((s + 273 - p) % 273) (λ d. (s + 273 - d) % 273) differences differences-below
    (λ d hd. eqb_same p ((s + 273 - d) % 273) ((s + 273 - p) % 273) d (λ e. omega arith) (λ e. omega arith))
    ∙ T-same (member ((s + 273 - p) % 273) differences) (is_difference ((s + 273 - p) % 273))
    (below_at 273 (λ u. beq (member u differences) (is_difference u)) member-test ((s + 273 - p) % 273) (omega arith))
    ∙ sym (on_row-difference s p hs hp)

on_row-through : (s p : ℕ) → s < 273 → p < 273 → on_row s p ≡ sum_over (eqb s) (rows_of p)
unfolding on_row
on_row-through s p hs hp =
    sum-map (λ x. eqb x p) (λ d. (s + 273 - d) % 273) differences
    ∙ sum_same 273 (λ d. eqb ((s + 273 - d) % 273) p) (λ d. eqb s ((p + d) % 273)) differences differences-below
    (λ d hd. eqb_same ((s + 273 - d) % 273) p s ((p + d) % 273) (λ e. omega arith) (λ e. omega arith))
    ∙ sym (sum-map (eqb s) (λ d. (p + d) % 273) differences)

-- ---- the facts

-- what is counted over the rows that hold p, is counted over the 17 rows p + d
pub over-rows : (p : ℕ) → p < 273 → (q : ℕ → Bool) → count (λ s. member p (row s) && q s) (upto 273) ≡ count q (rows_of p)
over-rows p hp q =
    count-upto 273 (λ s. member p (row s) && q s) (λ s. sum_over (eqb s) (rows_of p) && q s)
    (λ s hs. ap (◌&& q s) (member-on_row s p hs hp ∙ on_row-through s p hs hp))
    ∙ through p hp q differences differences-below differences-distinct

count-all : (xs : List ℕ) → count (λ s. true) xs ≡ length xs
unfolding digit
count-all [] = refl
count-all (x ∷ xs) = omega (arith, count-all xs)

pub on-seventeen : (p : ℕ) → p < 273 → count (λ s. member p (row s)) (upto 273) ≡ 17
unfolding differences
on-seventeen p hp =
    count-upto 273 (λ s. member p (row s)) (λ s. member p (row s) && true) (λ s hs. sym (and-true (member p (row s))))
    ∙ over-rows p hp (λ s. true)
    ∙ count-all (rows_of p)

pub share-one : (p q : ℕ) → p < 273 → q < 273 → p ≢ q → count (λ s. member p (row s) && member q (row s)) (upto 273) ≡ 1
share-one p q hp hq ne =
    over-rows p hp (λ s. member q (row s))
    ∙ rows_same (λ s. member q (row s)) (λ s. on_row s q) p (λ s hs. member-on_row s q hs hq)
    ∙ shared-one p q hp hq ne
