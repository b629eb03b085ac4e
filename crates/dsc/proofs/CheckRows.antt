-- The sums of a word on the rows of the check table: linear in the word, alike under shifts, and even for every code word.
-- Assumes nothing.
use mathlib.Core.Path.{◌≡◌, refl, sym, ap, ap₂, ◌∙◌, fun_ext}
use mathlib.Core.Bool.{Bool, true, false, not, cond, ◌&&◌}
use mathlib.Core.List.{List, [], ◌∷◌, ◌++◌, map}
use mathlib.Core.Logic.{◌≢◌}
use Prim.Native.Nat.{ℕ, zero, suc, ◌+◌, ◌-◌, ◌/◌, ◌%◌, ◌^◌, ◌≤◌, ◌<◌}
use native.Mathlib.Nat.{suc_inj, mod-add-mod, add-mod-mod}
use native.Mathlib.Omega.{arith}
use lib.Dec.{eqb, ltb, T, ltb→lt, eqb→eq}
use lib.ListN.{length, get_or, length-append, length-replicate}
use borrow.Author.Tests.{eq-eqb, ne_eqb, eqb-true}
use Rattle.bits.proofs.Computed.{and_left, and_right, T_not, eqb_same, below, below_at, all_below}
use Rattle.gf2.specs.Polynomial.{◌⊕◌, zeros, add, scale, mul, poly, member}
use Rattle.gf2.proofs.Sum.{xor-cross, and_xor, length-add, add-zeros, add-shifted}
use Rattle.gf2.proofs.Division.{length-mul}
use Rattle.bits.specs.Bits.{digit, odd}
use Rattle.dsc.specs.Code.{powers, generator_low, CodeWord, count}
use Rattle.dsc.specs.CheckTable.{differences, row, rows_of, coefficient, sum_over, syndrome}
use Rattle.dsc.proofs.Word.{length-low}

-- ---- sums and counts along a list

pub sum-xor : (f g : ℕ → Bool) (ps : List ℕ) → sum_over (λ p. f p ⊕ g p) ps ≡ sum_over f ps ⊕ sum_over g ps
sum-xor f g [] = refl
sum-xor f g (p ∷ ps) = ap ((f p ⊕ g p) ⊕◌) (sum-xor f g ps) ∙ xor-cross (f p) (g p) (sum_over f ps) (sum_over g ps)

pub sum-none : (ps : List ℕ) → sum_over (λ p. false) ps ≡ false
sum-none [] = refl
sum-none (p ∷ ps) = sum-none ps

pub sum-and : (b : Bool) (f : ℕ → Bool) (ps : List ℕ) → sum_over (λ p. b && f p) ps ≡ b && sum_over f ps
sum-and true f ps = refl
sum-and false f ps = sum-none ps

pub sum-map : (f : ℕ → Bool) (h : ℕ → ℕ) (ds : List ℕ) → sum_over f (map h ds) ≡ sum_over (λ d. f (h d)) ds
sum-map f h [] = refl
sum-map f h (d ∷ ds) = ap (f (h d) ⊕◌) (sum-map f h ds)

-- terms that are alike below n, along a list of numbers below n
pub sum_same : (n : ℕ) (f g : ℕ → Bool) (ds : List ℕ) → T (all_below n ds) → ((d : ℕ) → d < n → f d ≡ g d) → sum_over f ds ≡ sum_over g ds
sum_same n f g [] t e = refl
sum_same n f g (d ∷ ds) t e =
    ap₂ ◌⊕◌ (e d (ltb→lt d n (and_left (ltb d n) (all_below n ds) t))) (sum_same n f g ds (and_right (ltb d n) (all_below n ds) t) e)

pub count_map : (f : ℕ → Bool) (h : ℕ → ℕ) (ds : List ℕ) → count f (map h ds) ≡ count (λ d. f (h d)) ds
count_map f h [] = refl
count_map f h (d ∷ ds) = ap (digit (f (h d)) +◌) (count_map f h ds)

pub count_same : (n : ℕ) (f g : ℕ → Bool) (ds : List ℕ) → T (all_below n ds) → ((d : ℕ) → d < n → f d ≡ g d) → count f ds ≡ count g ds
count_same n f g [] t e = refl
count_same n f g (d ∷ ds) t e =
    ap₂ (λ b k. digit b + k) (e d (ltb→lt d n (and_left (ltb d n) (all_below n ds) t))) (count_same n f g ds (and_right (ltb d n) (all_below n ds) t) e)

pub differences-below : T (all_below 273 differences)
unfolding differences
differences-below = tt

pub difference-lt : (i : ℕ) → i < 17 → get_or differences i 0 < 273
unfolding differences below
difference-lt i h = ltb→lt (get_or differences i 0) 273 (below_at 17 (λ i. ltb (get_or differences i 0) 273) tt i h)

-- ---- coefficients

pub coefficient-out : (w : List Bool) (p : ℕ) → length w ≤ p → coefficient w p ≡ false
coefficient-out [] p h = refl
coefficient-out (b ∷ w) p h = rw (ne_eqb p (length w) (λ e. omega arith)) (coefficient-out w p (omega arith))

-- the same by index
pub coefficient-at : (w : List Bool) (p i : ℕ) → p + i + 1 ≡ length w → coefficient w p ≡ get_or w i false
coefficient-at [] p i h = absurd (omega arith)
coefficient-at (b ∷ w) p zero h = ap (λ t. cond t b (coefficient w p)) (eq-eqb p (length w) (omega arith))
coefficient-at (b ∷ w) p (suc i) h =
    ap (λ t. cond t b (coefficient w p)) (ne_eqb p (length w) (λ e. omega arith)) ∙ coefficient-at w p i (omega arith)

pub coefficient-cons : (b : Bool) (w : List Bool) (p : ℕ) → coefficient (b ∷ w) p ≡ (b && eqb p (length w)) ⊕ coefficient w p
coefficient-cons b w p = go b (eqb p (length w)) refl
  where
    go : (b t : Bool) → eqb p (length w) ≡ t → cond t b (coefficient w p) ≡ (b && t) ⊕ coefficient w p
    go true true e = ap not (sym (coefficient-out w p (omega (arith, eqb-true))))
    go true false e = refl
    go false true e = sym (coefficient-out w p (omega (arith, eqb-true)))
    go false false e = refl

-- ---- the sum on a row is linear in the word

-- place n lies on row s
unfoldable pub on_row : ℕ → ℕ → Bool
on_row s n = sum_over (λ p. eqb p n) (row s)

pub syndrome-cons : (b : Bool) (w : List Bool) (s : ℕ) → syndrome (b ∷ w) s ≡ (b && on_row s (length w)) ⊕ syndrome w s
unfolding on_row
syndrome-cons b w s =
    ap (λ f. sum_over f (row s)) (fun_ext (coefficient-cons b w))
    ∙ sum-xor (λ p. b && eqb p (length w)) (coefficient w) (row s)
    ∙ ap (◌⊕ syndrome w s) (sum-and b (λ p. eqb p (length w)) (row s))

pub syndrome-nil : (s : ℕ) → syndrome [] s ≡ false
syndrome-nil s = sum-none (row s)

pub syndrome-false : (w : List Bool) (s : ℕ) → syndrome (false ∷ w) s ≡ syndrome w s
syndrome-false w s = syndrome-cons false w s

pub syndrome-zeros : (k s : ℕ) → syndrome (zeros k) s ≡ false
syndrome-zeros zero s = syndrome-nil s
syndrome-zeros (suc k) s = syndrome-false (zeros k) s ∙ syndrome-zeros k s

pub syndrome-add : (u w : List Bool) (s : ℕ) → length u ≡ length w → syndrome (add u w) s ≡ syndrome u s ⊕ syndrome w s
unfolding add
syndrome-add [] w s h = sym (ap (◌⊕ syndrome w s) (syndrome-nil s))
syndrome-add (a ∷ u) [] s h = absurd (omega arith)
syndrome-add (a ∷ u) (b ∷ w) s h =
    syndrome-cons (a ⊕ b) (add u w) s
    ∙ ap₂ ◌⊕◌ (ap (λ n. (a ⊕ b) && on_row s n) (length-add u w) ∙ and_xor a b (on_row s (length w))) (syndrome-add u w s (suc_inj h))
    ∙ xor-cross (a && on_row s (length w)) (b && on_row s (length w)) (syndrome u s) (syndrome w s)
    ∙ sym (ap₂ ◌⊕◌ (syndrome-cons a u s ∙ ap (λ n. (a && on_row s n) ⊕ syndrome u s) (suc_inj h)) (syndrome-cons b w s))

-- ---- the rows are shifts of one another

unfoldable pub is_difference : ℕ → Bool
is_difference u = sum_over (eqb u) differences

pub on_row-difference : (s n : ℕ) → s < 273 → n < 273 → on_row s n ≡ is_difference ((s + 273 - n) % 273)
unfolding on_row is_difference
on_row-difference s n hs hn =
    sum-map (λ p. eqb p n) (λ d. (s + 273 - d) % 273) differences
    ∙ sum_same 273 (λ d. eqb ((s + 273 - d) % 273) n) (eqb ((s + 273 - n) % 273)) differences differences-below
    (λ d hd. eqb_same ((s + 273 - d) % 273) n ((s + 273 - n) % 273) d (λ e. omega arith) (λ e. omega arith))

pub on_row-shift : (s n k : ℕ) → s < 273 → n + k < 273 → on_row s (n + k) ≡ on_row ((s + 273 - k) % 273) n
on_row-shift s n k hs hn =
    on_row-difference s (n + k) hs hn ∙ ap is_difference (omega arith) ∙ sym (on_row-difference ((s + 273 - k) % 273) n (omega arith) (omega arith))

-- the set as the ones of one number, so that the tests below ask one division in place of 17 comparisons
unfoldable pub marks : List ℕ → ℕ
marks [] = 0
marks (d ∷ ds) = 2 ^ d + marks ds

unfoldable pub marked : (m u : ℕ) → Bool
marked m u = odd (m / 2 ^ u)

alike : (a b : Bool) → T (not (a ⊕ b)) → a ≡ b
alike true true t = refl
alike true false t = absurd t
alike false true t = absurd t
alike false false t = refl

marks-test : T (below 273 (λ u. not (is_difference u ⊕ marked (marks differences) u)))
unfolding below is_difference marks marked differences odd
marks-test = tt

difference-marked : (u : ℕ) → u < 273 → is_difference u ≡ marked (marks differences) u
difference-marked u h = alike _ _ (below_at 273 (λ u. not (is_difference u ⊕ marked (marks differences) u)) marks-test u h)

pub on_row-marked : (s n : ℕ) → s < 273 → n < 273 → on_row s n ≡ marked (marks differences) ((s + 273 - n) % 273)
on_row-marked s n hs hn = on_row-difference s n hs hn ∙ difference-marked ((s + 273 - n) % 273) (omega arith)

-- a word times x^k has on row s the sum of the word on row s - k
pub syndrome-shift : (k : ℕ) (u : List Bool) (s : ℕ) → s < 273 → length u + k ≤ 273 → syndrome (u ++ zeros k) s ≡ syndrome u ((s + 273 - k) % 273)
syndrome-shift k [] s hs h = syndrome-zeros k s ∙ sym (syndrome-nil ((s + 273 - k) % 273))
syndrome-shift k (b ∷ u) s hs h =
    syndrome-cons b (u ++ zeros k) s
    ∙ ap₂ (λ t r. (b && t) ⊕ r)
    (ap (on_row s) (length-append u (zeros k) ∙ ap (length u +◌) (length-replicate k false)) ∙ on_row-shift s (length u) k hs (omega arith))
    (syndrome-shift k u s hs (omega arith))
    ∙ sym (syndrome-cons b u ((s + 273 - k) % 273))

-- row s - a holds place n exactly if row s - n holds place a
pub on_row-turn : (s a n : ℕ) → s < 273 → n + a < 273 → on_row ((s + 273 - a) % 273) n ≡ on_row ((s + 273 - n) % 273) a
on_row-turn s a n hs h =
    sym (on_row-shift s n a hs h) ∙ ap (on_row s) (let e : n + a ≡ a + n = omega arith in e) ∙ on_row-shift s a n hs (omega arith)

-- ---- every code word has an even sum on each row: one test, over the 273 rows, of the generator

abbrev generator : List Bool
generator = true ∷ generator_low

-- the sum of the n coefficients u on row s, where m marks the set
row_sum : (m n : ℕ) → List Bool → ℕ → Bool
row_sum m zero u s = false
row_sum m (suc n) [] s = false
row_sum m (suc n) (b ∷ u) s = (b && marked m ((s + 273 - n) % 273)) ⊕ row_sum m n u s

generator-test : T (below 273 (λ s. not (row_sum (marks differences) 83 generator s)))
unfolding below row_sum marks marked differences odd generator_low powers poly member
generator-test = tt

syndrome-row_sum : (u : List Bool) (s : ℕ) → s < 273 → length u ≤ 273 → syndrome u s ≡ row_sum (marks differences) (length u) u s
unfolding row_sum
syndrome-row_sum [] s hs h = syndrome-nil s
syndrome-row_sum (b ∷ u) s hs h =
    syndrome-cons b u s ∙ ap₂ (λ t r. (b && t) ⊕ r) (on_row-marked s (length u) hs (omega arith)) (syndrome-row_sum u s hs (omega arith))

pub generator-even : (k s : ℕ) → s < 273 → k ≤ 190 → syndrome (generator ++ zeros k) s ≡ false
generator-even k s hs hk =
    syndrome-shift k generator s hs (omega (arith, length-low))
    ∙ syndrome-row_sum generator ((s + 273 - k) % 273) (omega arith) (omega (arith, length-low))
    ∙ ap (λ n. row_sum (marks differences) n generator ((s + 273 - k) % 273)) (ap suc length-low)
    ∙ T_not (row_sum (marks differences) 83 generator ((s + 273 - k) % 273)) (below_at 273 (λ s. not (row_sum (marks differences) 83 generator s)) generator-test ((s + 273 - k) % 273) (omega arith))

-- the generator, added at the front of a word, changes no sum
pub syndrome-generator : (w : List Bool) (s k : ℕ) → s < 273 → k ≤ 190 → length w ≡ k + 83 → syndrome (add generator w) s ≡ syndrome w s
syndrome-generator w s k hs hk h =
    ap (λ u. syndrome u s) (sym (add-shifted generator k w))
    ∙ syndrome-add (generator ++ zeros k) w s (omega (arith, length-append generator_low (zeros k), length-replicate k false, length-low))
    ∙ ap (◌⊕ syndrome w s) (generator-even k s hs hk)

multiple-even : (m : List Bool) (s : ℕ) → s < 273 → length m ≤ 191 → syndrome (mul generator_low m) s ≡ false
unfolding mul scale
multiple-even [] s hs h = syndrome-zeros (length generator_low) s
multiple-even (true ∷ m) s hs h =
    syndrome-generator (false ∷ mul generator_low m) s (length m) hs (omega arith) (omega (arith, length-mul generator_low m, length-low))
    ∙ syndrome-false (mul generator_low m) s
    ∙ multiple-even m s hs (omega arith)
multiple-even (false ∷ m) s hs h =
    ap (λ u. syndrome u s) (add-zeros (length generator) (false ∷ mul generator_low m))
    ∙ syndrome-false (mul generator_low m) s
    ∙ multiple-even m s hs (omega arith)

pub word_even : (c : List Bool) → CodeWord c → (s : ℕ) → s < 273 → syndrome c s ≡ false
word_even c k s hs = ap (λ w. syndrome w s) k.multiple ∙ multiple-even k.multiplier s hs (omega (arith, k.size))

-- ---- the rows through place p that hold place n: all 17 where n is p, and one otherwise

pub rows_same : (f g : ℕ → Bool) (p : ℕ) → ((s : ℕ) → s < 273 → f s ≡ g s) → count f (rows_of p) ≡ count g (rows_of p)
rows_same f g p e =
    count_map f (λ d. (p + d) % 273) differences
    ∙ count_same 273 (λ d. f ((p + d) % 273)) (λ d. g ((p + d) % 273)) differences differences-below (λ d hd. e ((p + d) % 273) (omega arith))
    ∙ sym (count_map g (λ d. (p + d) % 273) differences)

turn : (p d k : ℕ) → ((p + d) % 273 + k) % 273 ≡ (d + (p + k) % 273) % 273
turn p d k = mod-add-mod (p + d) 273 k ∙ ap (◌% 273) (omega arith) ∙ sym (add-mod-mod d (p + k) 273)

on_row-through : (p d n : ℕ) → p < 273 → d < 273 → n < 273 → on_row ((p + d) % 273) n ≡ is_difference ((d + (p + 273 - n) % 273) % 273)
on_row-through p d n hp hd hn =
    on_row-difference ((p + d) % 273) n (omega arith) hn
    ∙ ap (λ m. is_difference (m % 273)) (omega arith)
    ∙ ap is_difference (turn p d (273 - n))
    ∙ ap (λ m. is_difference ((d + m % 273) % 273)) (omega arith)

-- how many rows two places at distance x share
abbrev shares : ℕ → ℕ
shares x = cond (eqb x 0) 17 1

-- each distance but 0 is the difference of two members of the set in one way only
difference-test : T (below 273 (λ x. eqb (count (λ d. marked (marks differences) ((d + x) % 273)) differences) (shares x)))
unfolding below marks marked differences odd digit
difference-test = tt

shared : (p n : ℕ) → p < 273 → n < 273 → count (λ s. on_row s n) (rows_of p) ≡ shares ((p + 273 - n) % 273)
shared p n hp hn =
    count_map (λ s. on_row s n) (λ d. (p + d) % 273) differences
    ∙ count_same 273 (λ d. on_row ((p + d) % 273) n) (λ d. marked (marks differences) ((d + (p + 273 - n) % 273) % 273)) differences differences-below
    (λ d hd. on_row-through p d n hp hd hn ∙ difference-marked ((d + (p + 273 - n) % 273) % 273) (omega arith))
    ∙ eqb→eq _ _ (below_at 273 (λ x. eqb (count (λ d. marked (marks differences) ((d + x) % 273)) differences) (shares x)) difference-test ((p + 273 - n) % 273) (omega arith))

pub shared-one : (p n : ℕ) → p < 273 → n < 273 → p ≢ n → count (λ s. on_row s n) (rows_of p) ≡ 1
shared-one p n hp hn ne = shared p n hp hn ∙ ap (λ t. cond t 17 1) (ne_eqb ((p + 273 - n) % 273) 0 (λ e. ne (omega arith)))

pub shared-all : (p : ℕ) → p < 273 → count (λ s. on_row s p) (rows_of p) ≡ 17
shared-all p hp = shared p p hp hp ∙ ap (λ t. cond t 17 1) (eq-eqb ((p + 273 - p) % 273) 0 (omega arith))
