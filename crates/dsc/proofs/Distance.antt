-- Two different code words differ in at least 18 places, and what follows from it. Assumes nothing.
use mathlib.Core.Path.{◌≡◌, refl, sym, ap, ap₂, ◌∙◌, subst}
use mathlib.Core.Bool.{Bool, true, false, true≢false, cond}
use mathlib.Core.Logic.{◌≢◌}
use mathlib.Core.List.{List, [], ◌∷◌}
use Prim.Native.Nat.{ℕ, zero, suc, ◌+◌, ◌≤◌, ◌<◌}
use native.Mathlib.Nat.{suc_inj}
use native.Mathlib.Omega.{arith}
use lib.Dec.{eqb}
use lib.ListN.{length}
use borrow.Author.Tests.{eq-eqb, eqb-true, eqb-false}
use Rattle.gf2.specs.Polynomial.{◌⊕◌, zeros, add}
use Rattle.gf2.proofs.Sum.{xor-false, length-add, add_none, add_assoc, add_same, add-to-zeros}
use Rattle.bits.specs.Bits.{digit}
use Rattle.dsc.specs.Code.{CodeWord, count, weight, dist}
use Rattle.dsc.specs.CheckTable.{rows_of, coefficient, syndrome, failures}
use Rattle.dsc.proofs.Weight.{weight-zeros}
use Rattle.dsc.proofs.Word.{length-word}
use Rattle.dsc.proofs.CheckRows.{coefficient-out, coefficient-cons, on_row, syndrome-nil, syndrome-cons, syndrome-false, syndrome-add, word_even, rows_same, shared-one, shared-all}

-- ---- counts of sums

pub record Triangle (x y z : ℕ) : Type 0 where
  pub sum : z ≤ x + y
  pub left : x ≤ z + y
  pub right : y ≤ z + x

triangle-digit : (a b : Bool) → Triangle (digit a) (digit b) (digit (a ⊕ b))
unfolding digit
triangle-digit false false = omega arith
triangle-digit false true = omega arith
triangle-digit true false = omega arith
triangle-digit true true = omega arith

triangle-count : (f g : ℕ → Bool) (xs : List ℕ) → Triangle (count f xs) (count g xs) (count (λ x. f x ⊕ g x) xs)
triangle-count f g [] = omega arith
triangle-count f g (x ∷ xs) =
    let h : Triangle (digit (f x)) (digit (g x)) (digit (f x ⊕ g x)) = triangle-digit (f x) (g x) in
    let t : Triangle (count f xs) (count g xs) (count (λ x. f x ⊕ g x) xs) = triangle-count f g xs in
    omega arith

pub count_none : {A : Type 0} (xs : List A) → count (λ x. false) xs ≡ 0
unfolding digit
count_none [] = refl
count_none (x ∷ xs) = omega (arith, count_none xs)

-- ---- the rows that fail for an error e: through a place that it does not hit at most one for each hit,
-- ---- through one that it hits at least 17, less one for each other hit

pub record Hits (e : List Bool) (p : ℕ) : Type 0 where
  pub missed : coefficient e p ≡ false → failures e p ≤ weight e
  pub struck : coefficient e p ≡ true → 18 ≤ failures e p + weight e

pub hits : (e : List Bool) (p : ℕ) → length e ≤ 273 → p < 273 → Hits e p
unfolding digit
hits [] p h hp =
    record {
      missed = λ z. omega (arith, rows_same (syndrome []) (λ s. false) p (λ s hs. syndrome-nil s), count_none (rows_of p));
      struck = λ z. absurd (true≢false (sym z));
    }
hits (false ∷ e) p h hp =
    let ih = hits e p (omega arith) hp in
    let same : failures (false ∷ e) p ≡ failures e p = rows_same (syndrome (false ∷ e)) (syndrome e) p (λ s hs. syndrome-false e s) in
    let at : coefficient (false ∷ e) p ≡ coefficient e p = coefficient-cons false e p in
    record { missed = λ z. omega (arith, ih.missed (sym at ∙ z)); struck = λ z. omega (arith, ih.struck (sym at ∙ z)) }
hits (true ∷ e) p h hp = go (hits e p (omega arith) hp) (eqb p n) refl
  where
    n : ℕ
    n = length e

    now : failures (true ∷ e) p ≡ count (λ s. on_row s n ⊕ syndrome e s) (rows_of p)
    now = rows_same (syndrome (true ∷ e)) (λ s. on_row s n ⊕ syndrome e s) p (λ s hs. syndrome-cons true e s)

    t : Triangle (count (λ s. on_row s n) (rows_of p)) (failures e p) (count (λ s. on_row s n ⊕ syndrome e s) (rows_of p))
    t = triangle-count (λ s. on_row s n) (syndrome e) (rows_of p)

    go : Hits e p → (b : Bool) → eqb p n ≡ b → Hits (true ∷ e) p
    go ih true q =
        let same : p ≡ n = eqb-true p n q in
        let all : count (λ s. on_row s n) (rows_of p) ≡ 17 = subst (λ k. count (λ s. on_row s k) (rows_of p) ≡ 17) same (shared-all p hp) in
        record {
          missed = λ z. absurd (true≢false (sym (ap (λ b. cond b true (coefficient e p)) q) ∙ z));
          struck = λ z. omega (arith, ih.missed (coefficient-out e p (omega arith)), now, t, all);
        }
    go ih false q =
        let one = shared-one p n hp (omega arith) (eqb-false p n q) in
        let at : coefficient (true ∷ e) p ≡ coefficient e p = ap (λ b. cond b true (coefficient e p)) q in
        record {
          missed = λ z. omega (arith, ih.missed (sym at ∙ z), now, t, one);
          struck = λ z. omega (arith, ih.struck (sym at ∙ z), now, t, one);
        }

-- the rows that fail for a received word are those of its error
pub error-failures : (r c : List Bool) → length r ≡ 187 → CodeWord c → (p : ℕ) → failures (add r c) p ≡ failures r p
error-failures r c h k p =
    rows_same (syndrome (add r c)) (syndrome r) p λ s hs.
    syndrome-add r c s (h ∙ sym (length-word c k)) ∙ ap (syndrome r s ⊕◌) (word_even c k s hs) ∙ xor-false (syndrome r s)

-- ---- so a word that is not zero and fails on no row has 18 ones or more

some-bit : (e : List Bool) → 0 < weight e → (p : ℕ) × (p < length e) × (coefficient e p ≡ true)
unfolding digit
some-bit [] h = absurd (omega arith)
some-bit (true ∷ e) h = (length e, omega arith, ap (λ t. cond t true (coefficient e (length e))) (eq-eqb (length e) (length e) refl))
some-bit (false ∷ e) h = let s = some-bit e (omega arith) in (s.0, omega (arith, s.1), coefficient-cons false e s.0 ∙ s.2)

weight18 : (e : List Bool) → length e ≤ 273 → ((s : ℕ) → s < 273 → syndrome e s ≡ false) → 0 < weight e → 18 ≤ weight e
weight18 e h even w =
    let s = some-bit e w in
    let none : failures e s.0 ≡ 0 = rows_same (syndrome e) (λ s. false) s.0 even ∙ count_none (rows_of s.0) in
    omega (arith, (hits e s.0 h (omega (arith, s.1))).struck s.2)

-- ---- distances

pub dist-triangle : (r u w : List Bool) → length r ≡ length u → length r ≡ length w → dist u w ≤ dist r u + dist r w
unfolding add digit
dist-triangle [] [] [] h l = omega arith
dist-triangle [] (a ∷ u) w h l = absurd (omega arith)
dist-triangle [] [] (b ∷ w) h l = absurd (omega arith)
dist-triangle (c ∷ r) [] w h l = absurd (omega arith)
dist-triangle (c ∷ r) (a ∷ u) [] h l = absurd (omega arith)
dist-triangle (c ∷ r) (a ∷ u) (b ∷ w) h l = omega (arith, first c a b, dist-triangle r u w (suc_inj h) (suc_inj l))
  where
    first : (c a b : Bool) → digit (a ⊕ b) ≤ digit (c ⊕ a) + digit (c ⊕ b)
    first true true b = omega arith
    first true false true = omega arith
    first true false false = omega arith
    first false true true = omega arith
    first false true false = omega arith
    first false false b = omega arith

weight-none : (w : List Bool) → weight w ≡ 0 → w ≡ zeros (length w)
unfolding digit
weight-none [] e = refl
weight-none (true ∷ w) e = absurd (omega arith)
weight-none (false ∷ w) e = ap (false ∷◌) (weight-none w (omega arith))

-- words at distance 0 are equal
pub dist-none : (u w : List Bool) → length u ≡ length w → dist u w ≡ 0 → u ≡ w
dist-none u w h e = add_none u w h (weight-none (add u w) e ∙ ap zeros (length-add u w))

pub dist_same : (w : List Bool) → dist w w ≡ 0
dist_same w = ap weight (add_same w) ∙ weight-zeros (length w)

-- a word hit in the places of e differs from itself in as many places
pub dist-hit : (e w : List Bool) → length e ≡ length w → dist (add e w) w ≡ weight e
dist-hit e w h =
    ap weight
    (add_assoc e w w (omega arith) ∙ ap (add e) (add_same w ∙ ap zeros (sym h)) ∙ add-to-zeros e)

-- ---- the central law

module _ (c d : List Bool) (kc : CodeWord c) (kd : CodeWord d) where
  lengths : length c ≡ length d
  lengths = length-word c kc ∙ sym (length-word d kd)

  apart : 0 < dist c d → 18 ≤ dist c d
  apart =
      weight18 (add c d) (omega (arith, length-add c d, length-word d kd))
      (λ s hs. syndrome-add c d s lengths ∙ ap₂ ◌⊕◌ (word_even c kc s hs) (word_even d kd s hs))

  -- code words that differ in fewer than 18 places are one
  pub close-equal : dist c d < 18 → c ≡ d
  close-equal l = go (dist c d) refl
    where
      go : (n : ℕ) → dist c d ≡ n → c ≡ d
      go zero e = dist-none c d lengths e
      go (suc n) e = absurd (omega (arith, apart (omega arith)))

  pub distance18 : c ≢ d → 18 ≤ dist c d
  distance18 ne = go (dist c d) refl
    where
      go : (n : ℕ) → dist c d ≡ n → 18 ≤ dist c d
      go zero e = absurd (ne (dist-none c d lengths e))
      go (suc n) e = apart (omega arith)

  -- at most one code word lies within eight places
  pub only_one : (r : List Bool) → length r ≡ 187 → dist r c ≤ 8 → dist r d ≤ 8 → c ≡ d
  only_one r h hc hd =
      close-equal (omega (arith, dist-triangle r c d (h ∙ sym (length-word c kc)) (h ∙ sym (length-word d kd))))
