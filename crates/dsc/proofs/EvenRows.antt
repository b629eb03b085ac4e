-- A word whose sums are even on all 273 rows is a code word; and any 82 neighbouring rows decide already. Assumes nothing.
use mathlib.Core.Path.{◌≡◌, refl, sym, ap, ap₂, ◌∙◌}
use mathlib.Core.Bool.{Bool, true, false, not, ◌&&◌, and-false}
use mathlib.Core.List.{List, [], ◌∷◌, ◌++◌}
use Prim.Native.Nat.{ℕ, zero, suc, ◌+◌, ◌-◌, ◌%◌, ◌≤◌, ◌<◌}
use native.Mathlib.Omega.{arith}
use lib.Dec.{T, ltb, ltb→lt}
use lib.ListN.{length}
use borrow.Author.Tests.{ltb-true, ltb-false}
use Rattle.bits.proofs.Computed.{and_left, and_right, T_not, below, below_at, all_below}
use Rattle.bits.specs.Bits.{odd}
use Rattle.gf2.specs.Polynomial.{◌⊕◌, zeros, add, scale, remainder}
use Rattle.gf2.proofs.Sum.{xor-false, length-add, add-zeros, add-self}
use Rattle.gf2.proofs.Division.{length-remainder}
use Rattle.dsc.specs.Code.{powers, generator_low, CodeWord}
use Rattle.dsc.specs.CheckTable.{differences, sum_over, syndrome}
use Rattle.dsc.proofs.Word.{length-low, divided-word}
use Rattle.dsc.proofs.CheckRows.{sum-xor, sum-and, sum-none, sum_same, on_row, on_row-turn, marks, marked, on_row-marked, syndrome-nil, syndrome-cons, syndrome-false, syndrome-generator}

-- ---- sums of several rows: the rows s - a, for the numbers a of a list

-- the sum of w on those rows together
mixed : List ℕ → List Bool → ℕ → Bool
mixed offsets w s = sum_over (λ a. syndrome w ((s + 273 - a) % 273)) offsets

-- on how many of the rows s - a a place lies, odd or even, is told by row s - n
module _ (offsets : List ℕ) (m : ℕ) (t : T (all_below m offsets)) where
  mixed-even : (w : List Bool) (s : ℕ) → s < 273 → ((s : ℕ) → s < 273 → syndrome w s ≡ false) → mixed offsets w s ≡ false
  unfolding mixed
  mixed-even w s hs e =
      sum_same m (λ a. syndrome w ((s + 273 - a) % 273)) (λ a. false) offsets t (λ a ha. e ((s + 273 - a) % 273) (omega arith)) ∙ sum-none offsets

  mixed-cons : (b : Bool) (w : List Bool) (s : ℕ) → s < 273 → length w + m ≤ 273
      → mixed offsets (b ∷ w) s ≡ (b && sum_over (on_row ((s + 273 - length w) % 273)) offsets) ⊕ mixed offsets w s
  unfolding mixed
  mixed-cons b w s hs h =
      sum_same m (λ a. syndrome (b ∷ w) ((s + 273 - a) % 273)) (λ a. (b && on_row ((s + 273 - length w) % 273) a) ⊕ syndrome w ((s + 273 - a) % 273)) offsets t
      (λ a ha. syndrome-cons b w ((s + 273 - a) % 273) ∙ ap (λ x. (b && x) ⊕ syndrome w ((s + 273 - a) % 273)) (on_row-turn s a (length w) hs (omega arith)))
      ∙ sum-xor (λ a. b && on_row ((s + 273 - length w) % 273) a) (λ a. syndrome w ((s + 273 - a) % 273)) offsets
      ∙ ap (◌⊕ mixed offsets w s) (sum-and b (on_row ((s + 273 - length w) % 273)) offsets)

  -- and that is told by the marks of the set
  rows-marked : (u : ℕ) → u < 273 → m ≤ 273 → sum_over (on_row u) offsets ≡ sum_over (λ n. marked (marks differences) ((u + 273 - n) % 273)) offsets
  rows-marked u hu hm =
      sum_same m (on_row u) (λ n. marked (marks differences) ((u + 273 - n) % 273)) offsets t (λ n hn. on_row-marked u n hu (omega arith))

-- ---- a certificate: the rows 0, 4, 6, .. together hold the place 191 and none of the 81 places after it

certificate : List ℕ
certificate = 0 ∷ 4 ∷ 6 ∷ 10 ∷ 12 ∷ 16 ∷ 18 ∷ 24 ∷ 28 ∷ 34 ∷ 40 ∷ 44 ∷ 46 ∷ 58 ∷ 60 ∷ 68 ∷ 70 ∷ 73 ∷ 75 ∷ 78 ∷ 80 ∷ []

certificate-below : T (all_below 100 certificate)
unfolding certificate
certificate-below = tt

held : ℕ → Bool
held u = sum_over (λ n. marked (marks differences) ((u + 273 - n) % 273)) certificate

held_first : held 191 ≡ true
unfolding held certificate marks marked differences odd
held_first = refl

held_after : T (below 81 (λ i. not (held (192 + i))))
unfolding below held certificate marks marked differences odd
held_after = tt

held-marked : (u : ℕ) → u < 273 → sum_over (on_row u) certificate ≡ held u
unfolding held
held-marked u h = rows-marked certificate 100 certificate-below u h (omega arith)

mixed-above : (r : List Bool) (n : ℕ) → length r ≤ n → n ≤ 81 → mixed certificate r (191 + n) ≡ false
mixed-above [] n h hn = mixed-even certificate 100 certificate-below [] (191 + n) (omega arith) (λ s hs. syndrome-nil s)
mixed-above (b ∷ r) n h hn =
    mixed-cons certificate 100 certificate-below b r (191 + n) (omega arith) (omega arith)
    ∙ ap₂ (λ t u. (b && t) ⊕ u)
    (held-marked ((191 + n + 273 - length r) % 273) (omega arith)
    ∙ ap held (let e : (191 + n + 273 - length r) % 273 ≡ 192 + (n - length r - 1) = omega arith in e)
    ∙ T_not (held (192 + (n - length r - 1))) (below_at 81 (λ i. not (held (192 + i))) held_after (n - length r - 1) (omega arith)))
    (mixed-above r n (omega arith) hn)
    ∙ ap (◌⊕ false) (and-false b)

first-false : (b : Bool) → (b && true) ⊕ false ≡ false → b ≡ false
first-false true e = e
first-false false e = refl

-- so at most 82 bits with even sums are zeros
pub even-zeros : (r : List Bool) → length r ≤ 82 → ((s : ℕ) → s < 273 → syndrome r s ≡ false) → r ≡ zeros (length r)
even-zeros [] h e = refl
even-zeros (b ∷ r) h e = ap₂ ◌∷◌ none (even-zeros r (omega arith) (λ s hs. sym (syndrome-false r s) ∙ ap (λ c. syndrome (c ∷ r) s) (sym none) ∙ e s hs))
  where
    n : ℕ
    n = length r

    none : b ≡ false
    none =
        first-false b
        (sym
        (ap₂ (λ t u. (b && t) ⊕ u) (held-marked ((191 + n + 273 - n) % 273) (omega arith) ∙ ap held (let q : (191 + n + 273 - n) % 273 ≡ 191 = omega arith in q) ∙ held_first) (mixed-above r n (omega arith) (omega arith)))
        ∙ sym (mixed-cons certificate 100 certificate-below b r (191 + n) (omega arith) (omega arith))
        ∙ mixed-even certificate 100 certificate-below (b ∷ r) (191 + n) (omega arith) e)

-- ---- division leaves the sums as they are

pub remainder-syndrome : (k : ℕ) (w : List Bool) (s : ℕ) → s < 273 → k ≤ 190 → length w ≡ k + 82 → syndrome (remainder generator_low k w) s ≡ syndrome w s
unfolding remainder scale add
remainder-syndrome zero w s hs hk h = refl
remainder-syndrome (suc k) [] s hs hk h = absurd (omega arith)
remainder-syndrome (suc k) (false ∷ w) s hs hk h =
    remainder-syndrome k (add (zeros (length generator_low)) w) s hs (omega arith) (length-add (zeros (length generator_low)) w ∙ omega arith)
    ∙ ap (λ u. syndrome u s) (add-zeros (length generator_low) w)
    ∙ sym (syndrome-false w s)
remainder-syndrome (suc k) (true ∷ w) s hs hk h =
    remainder-syndrome k (add generator_low w) s hs (omega arith) (length-add generator_low w ∙ omega arith)
    ∙ sym (syndrome-false (add generator_low w) s)
    ∙ sym (syndrome-generator (false ∷ add generator_low w) s k hs (omega arith) (omega (arith, length-add generator_low w)))
    ∙ ap (λ u. syndrome (true ∷ u) s) (add-self generator_low w)

pub even-word : (w : List Bool) → length w ≡ 187 → ((s : ℕ) → s < 273 → syndrome w s ≡ false) → CodeWord w
even-word w h e =
    divided-word w h (even-zeros r (omega (arith, long)) (λ s hs. remainder-syndrome 105 w s hs (omega arith) h ∙ e s hs) ∙ ap zeros long)
  where
    r : List Bool
    r = remainder generator_low 105 w

    long : length r ≡ 82
    long = length-remainder generator_low 105 w (h ∙ ap (105 +◌) (sym length-low)) ∙ length-low

-- ---- any 82 neighbouring rows decide, since each row is the sum of 17 of the 82 before it

-- every place is on an even number of the rows s - k, for the powers k of the generator
powers-test : T (below 273 (λ s. not (sum_over (λ n. marked (marks differences) ((s + 273 - n) % 273)) powers)))
unfolding below marks marked differences odd powers
powers-test = tt

powers-below : T (all_below 83 powers)
unfolding powers
powers-below = tt

mixed-powers : (w : List Bool) (s : ℕ) → s < 273 → length w ≤ 187 → mixed powers w s ≡ false
mixed-powers [] s hs h = mixed-even powers 83 powers-below [] s hs (λ s hs. syndrome-nil s)
mixed-powers (b ∷ w) s hs h =
    mixed-cons powers 83 powers-below b w s hs (omega arith)
    ∙ ap₂ (λ t u. (b && t) ⊕ u)
    (rows-marked powers 83 powers-below ((s + 273 - length w) % 273) (omega arith) (omega arith)
    ∙ T_not _ (below_at 273 (λ s. not (sum_over (λ n. marked (marks differences) ((s + 273 - n) % 273)) powers)) powers-test ((s + 273 - length w) % 273) (omega arith)))
    (mixed-powers w s hs (omega arith))
    ∙ ap (◌⊕ false) (and-false b)

-- the powers but for the last, 0
upper : List ℕ
upper = 82 ∷ 77 ∷ 76 ∷ 71 ∷ 67 ∷ 66 ∷ 56 ∷ 52 ∷ 48 ∷ 40 ∷ 36 ∷ 34 ∷ 24 ∷ 22 ∷ 18 ∷ 10 ∷ 4 ∷ []

abbrev within : List ℕ → Bool
within [] = true
within (k ∷ ks) = ltb 0 k && (ltb k 83 && within ks)

-- a sum of which all but the last term vanish
last : (f : ℕ → Bool) (ks : List ℕ) → T (within ks) → ((k : ℕ) → 0 < k → k < 83 → f k ≡ false) → sum_over f (ks ++ 0 ∷ []) ≡ f 0
last f [] t e = xor-false (f 0)
last f (k ∷ ks) t e =
    let r = and_right (ltb 0 k) (ltb k 83 && within ks) t in
    ap₂ ◌⊕◌ (e k (ltb→lt 0 k (and_left (ltb 0 k) (ltb k 83 && within ks) t)) (ltb→lt k 83 (and_left (ltb k 83) (within ks) r)))
    (last f ks (and_right (ltb k 83) (within ks) r) e)

last-power : (f : ℕ → Bool) → ((k : ℕ) → 0 < k → k < 83 → f k ≡ false) → sum_over f powers ≡ f 0
unfolding powers upper
last-power f e = last f upper tt e

module _ (w : List Bool) (h : length w ≡ 187) (from : ℕ) (hf : from < 273) (e : (j : ℕ) → j < 82 → syndrome w ((from + j) % 273) ≡ false) where
  even-below : (n j : ℕ) → j < n → syndrome w ((from + j) % 273) ≡ false
  unfolding mixed
  even-below zero j l = absurd (omega arith)
  even-below (suc n) j l = go (even-below n) (ltb j 82) refl
    where
      s : ℕ
      s = (from + j) % 273

      go : ((j : ℕ) → j < n → syndrome w ((from + j) % 273) ≡ false) → (t : Bool) → ltb j 82 ≡ t → syndrome w s ≡ false
      go ih true q = e j (ltb-true j 82 q)
      go ih false q =
          let m = ltb-false j 82 q in
          ap (syndrome w) (let z : s ≡ (s + 273 - 0) % 273 = omega arith in z)
          ∙ sym
          (last-power (λ k. syndrome w ((s + 273 - k) % 273))
          (λ k hk hk'. ap (syndrome w) (let z : (s + 273 - k) % 273 ≡ (from + (j - k)) % 273 = omega arith in z) ∙ ih (j - k) (omega arith)))
          ∙ mixed-powers w s (omega arith) (omega arith)

  pub neighbours-word : CodeWord w
  neighbours-word =
      even-word w h
      (λ s hs. ap (syndrome w) (let z : s ≡ (from + (s + 273 - from) % 273) % 273 = omega arith in z) ∙ even-below 273 ((s + 273 - from) % 273) (omega arith))
