-- The limbs of the product: what the code's shifts give, and the sums on the check rows that come of it. Assumes nothing.
use mathlib.Core.Path.{◌≡◌, refl, sym, ap, ap₂, ◌∙◌}
use mathlib.Core.Bool.{Bool, true, false, cond, ◌||◌}
use mathlib.Core.List.{List, [], ◌∷◌, map}
use Prim.Native.Nat.{ℕ, zero, suc, ◌+◌, ◌-◌, ◌*◌, ◌/◌, ◌%◌, ◌^◌, ◌≤◌, ◌<◌}
use native.Mathlib.Omega.{arith}
use lib.Bits.{bit_xor}
use lib.Dec.{T, ltb, leb}
use lib.ListN.{length, get_or}
use borrow.Author.Tests.{ltb-true, ltb-false, lt-ltb, le-ltb, leb-true}
use Rattle.bits.proofs.Computed.{all_below}
use Rattle.gf2.specs.Polynomial.{◌⊕◌}
use Rattle.gf2.proofs.Sum.{xor_assoc, xor-false}
use Rattle.lanes.specs.Lane.{lane}
use Rattle.lanes.proofs.Lanes.{lane_xor, lane-zero, lane-shr, lane-shl-high, lane-shl-low}
use Rattle.lanes.proofs.Windows.{window, lane-window}
use Rattle.dsc.specs.CheckTable.{differences, coefficient, sum_over, syndrome}
use Rattle.dsc.proofs.CheckRows.{sum-xor, sum-none, sum-map, sum_same, coefficient-out}
use Rattle.dsc_words.specs.Words.{word_of}
use Rattle.dsc_sums.specs.Sums.{times_power, product, Limb, Sums}
use Rattle.dsc_words.proofs.Words.{length-word_of, at_low, all-high, bit_word}

pub differences-small : T (all_below 202 differences)
unfolding differences
differences-small = tt

-- ---- a word times a power of x

module _ (w : List Bool) where
  times-before : (d n : ℕ) → n < d → times_power d w n ≡ false
  times-before d n h = ap (λ t. cond t false (coefficient w (n - d))) (lt-ltb n d h)

  times-at : (d n m : ℕ) → n ≡ d + m → times_power d w n ≡ coefficient w m
  times-at d n m e = ap (λ t. cond t false (coefficient w (n - d))) (le-ltb n d (omega arith)) ∙ ap (coefficient w) (omega arith)

  times-past : length w ≡ 187 → (d n : ℕ) → d + 187 ≤ n → times_power d w n ≡ false
  times-past l d n h = times-at d n (n - d) (omega arith) ∙ coefficient-out w (n - d) (omega arith)

  -- the code's windows count from 256 places below the word, so that none begins below 0
  times-256 : (d n m : ℕ) → d ≤ 256 → m + d ≡ n + 256 → times_power 256 w m ≡ times_power d w n
  times-256 d n m h e = go (ltb n d) refl
    where
      go : (t : Bool) → ltb n d ≡ t → times_power 256 w m ≡ times_power d w n
      go true q = let l = ltb-true n d q in times-before 256 m (omega arith) ∙ sym (times-before d n l)
      go false q = let l = ltb-false n d q in times-at 256 m (n - d) (omega arith) ∙ sym (times-at d n (n - d) (omega arith))

-- ---- what the code takes of the word for the window that begins at place p of the word times x^256

module _ (low middle high : ℕ) where
  abbrev pub term : ℕ → ℕ
  term p =
      cond (ltb p 256) (low * 2 ^ (256 - p) % 2 ^ 64)
      (cond (ltb 384 p) (high / 2 ^ (p - 384)) (window (low ∷ middle ∷ high ∷ []) (p - 256)))

  -- it is left out where it would be 0
  abbrev pub outside : ℕ → Bool
  outside p = ltb p 193 || leb 443 p

  abbrev pub term_sum : ℕ → List ℕ → ℕ
  term_sum x [] = x
  term_sum x (p ∷ ps) = term_sum (cond (outside p) x (bit_xor x (term p))) ps

  abbrev pub limb_of : List ℕ → ℕ
  limb_of [] = 0
  limb_of (p ∷ ps) = cond (outside p) (limb_of ps) (term_sum (term p) ps)

  module _ (fl : low < 2 ^ 64) (fm : middle < 2 ^ 64) (fits : high < 2 ^ 59) (i : ℕ) (h : i < 64) where
    abbrev w : List Bool
    w = word_of low middle high

    lane_low : (p : ℕ) → 193 ≤ p → p < 256 → lane (low * 2 ^ (256 - p) % 2 ^ 64) i ≡ times_power 256 w (p + i)
    lane_low p l r = go (ltb i (256 - p)) refl
      where
        go : (t : Bool) → ltb i (256 - p) ≡ t → lane (low * 2 ^ (256 - p) % 2 ^ 64) i ≡ times_power 256 w (p + i)
        go true e = let m = ltb-true i (256 - p) e in lane-shl-low low (256 - p) i m h ∙ sym (times-before w 256 (p + i) (omega arith))
        go false e =
            let m = ltb-false i (256 - p) e in
            let j : i ≡ 256 - p + (p + i - 256) = omega arith in
            ap (lane (low * 2 ^ (256 - p) % 2 ^ 64)) j
            ∙ lane-shl-high low (256 - p) (p + i - 256) (omega arith)
            ∙ sym (at_low low middle high (p + i - 256) (omega arith))
            ∙ sym (times-at w 256 (p + i) (p + i - 256) (omega arith))

    lane-high : (p : ℕ) → 384 < p → lane (high / 2 ^ (p - 384)) i ≡ times_power 256 w (p + i)
    lane-high p l =
        lane-shr high (p - 384) i ∙ all-high low middle high fits (p - 384 + i) ∙ sym (times-at w 256 (p + i) (128 + (p - 384 + i)) (omega arith))

    lane-both : (p : ℕ) → 256 ≤ p → p ≤ 384 → lane (window (low ∷ middle ∷ high ∷ []) (p - 256)) i ≡ times_power 256 w (p + i)
    lane-both p l r =
        lane-window (low ∷ middle ∷ high ∷ []) (fl, (fm, (omega arith, tt))) i h (p - 256)
        ∙ bit_word low middle high fits (i + (p - 256)) (omega arith)
        ∙ sym (times-at w 256 (p + i) (i + (p - 256)) (omega arith))

    lane-term : (p : ℕ) → 193 ≤ p → lane (term p) i ≡ times_power 256 w (p + i)
    lane-term p l = go (ltb p 256) (ltb 384 p) refl refl
      where
        go : (s t : Bool) → ltb p 256 ≡ s → ltb 384 p ≡ t
            → lane (cond s (low * 2 ^ (256 - p) % 2 ^ 64) (cond t (high / 2 ^ (p - 384)) (window (low ∷ middle ∷ high ∷ []) (p - 256)))) i ≡ times_power 256 w (p + i)
        go true t e f = lane_low p l (ltb-true p 256 e)
        go false true e f = lane-high p (ltb-true 384 p f)
        go false false e f = lane-both p (ltb-false p 256 e) (ltb-false 384 p f)

    -- a window outside holds nothing
    data Place (p : ℕ) : Bool → Type 0 where
      out : times_power 256 w (p + i) ≡ false → Place p true
      within : 193 ≤ p → Place p false

    place : (p : ℕ) → Place p (outside p)
    place p = go (ltb p 193) (leb 443 p) refl refl
      where
        go : (s t : Bool) → ltb p 193 ≡ s → leb 443 p ≡ t → Place p (s || t)
        go true t e f = let l = ltb-true p 193 e in out (times-before w 256 (p + i) (omega arith))
        go false true e f = let l = leb-true 443 p f in out (times-past w (length-word_of low middle high) 256 (p + i) (omega arith))
        go false false e f = within (ltb-false p 193 e)

    abbrev taken : ℕ → Bool
    taken p = times_power 256 w (p + i)

    one_more : (x p : ℕ) (t : Bool) → Place p t → lane (cond t x (bit_xor x (term p))) i ≡ lane x i ⊕ taken p
    one_more x p true (out e) = sym (ap (lane x i ⊕◌) e ∙ xor-false (lane x i))
    one_more x p false (within l) = lane_xor x (term p) i ∙ ap (lane x i ⊕◌) (lane-term p l)

    lane-term_sum : (x : ℕ) (ps : List ℕ) → lane (term_sum x ps) i ≡ lane x i ⊕ sum_over taken ps
    lane-term_sum x [] = sym (xor-false (lane x i))
    lane-term_sum x (p ∷ ps) =
        lane-term_sum (cond (outside p) x (bit_xor x (term p))) ps
        ∙ ap (◌⊕ sum_over taken ps) (one_more x p (outside p) (place p))
        ∙ xor_assoc (lane x i) (taken p) (sum_over taken ps)

    lane-limb_of : (ps : List ℕ) → lane (limb_of ps) i ≡ sum_over taken ps
    lane-limb_of [] = lane-zero i
    lane-limb_of (p ∷ ps) = go (outside p) (place p) (lane-limb_of ps)
      where
        go : (t : Bool) → Place p t → lane (limb_of ps) i ≡ sum_over taken ps → lane (cond t (limb_of ps) (term_sum (term p) ps)) i ≡ taken p ⊕ sum_over taken ps
        go true (out e) ih = ih ∙ ap (◌⊕ sum_over taken ps) (sym e)
        go false (within l) ih = lane-term_sum (term p) ps ∙ ap (◌⊕ sum_over taken ps) (lane-term p l)

  pub limb-of : low < 2 ^ 64 → middle < 2 ^ 64 → high < 2 ^ 59 → (k : ℕ) → Limb (word_of low middle high) k (limb_of (map (λ d. 64 * k + 256 - d) differences))
  limb-of fl fm fits k = record { each = go }
    where
      w : List Bool
      w = word_of low middle high

      go : (i : ℕ) → i < 64 → lane (limb_of (map (λ d. 64 * k + 256 - d) differences)) i ≡ product w (64 * k + i)
      go i h =
          lane-limb_of fl fm fits i h (map (λ d. 64 * k + 256 - d) differences)
          ∙ sum-map (λ p. times_power 256 w (p + i)) (λ d. 64 * k + 256 - d) differences
          ∙ sum_same 202 (λ d. times_power 256 w (64 * k + 256 - d + i)) (λ d. times_power d w (64 * k + i)) differences differences-small
          (λ d hd. times-256 w d (64 * k + i) (64 * k + 256 - d + i) (omega arith) (omega arith))

-- ---- modulo x^273 - 1 the product is the sums on the rows

module _ (w : List Bool) (l : length w ≡ 187) where
  fold-term : (s d : ℕ) → s < 273 → d < 202 → coefficient w ((s + 273 - d) % 273) ≡ times_power d w s ⊕ times_power d w (s + 273)
  fold-term s d hs hd = go (ltb s d) refl
    where
      go : (t : Bool) → ltb s d ≡ t → coefficient w ((s + 273 - d) % 273) ≡ times_power d w s ⊕ times_power d w (s + 273)
      go true e =
          let m = ltb-true s d e in
          sym (ap₂ ◌⊕◌ (times-before w d s (omega arith)) (times-at w d (s + 273) ((s + 273 - d) % 273) (omega arith)))
      go false e =
          let m = ltb-false s d e in
          sym
          (ap₂ ◌⊕◌ (times-at w d s ((s + 273 - d) % 273) (omega arith)) (times-past w l d (s + 273) (omega arith))
          ∙ xor-false (coefficient w ((s + 273 - d) % 273)))

  pub folded : (s : ℕ) → s < 273 → syndrome w s ≡ product w s ⊕ product w (s + 273)
  folded s hs =
      sum-map (coefficient w) (λ d. (s + 273 - d) % 273) differences
      ∙ sum_same 202 (λ d. coefficient w ((s + 273 - d) % 273)) (λ d. times_power d w s ⊕ times_power d w (s + 273)) differences differences-small
      (λ d hd. fold-term s d hs hd)
      ∙ sum-xor (λ d. times_power d w s) (λ d. times_power d w (s + 273)) differences

  -- the product ends at x^387, so nothing comes round to row 115 and those after it
  product-past : (n : ℕ) → 388 ≤ n → product w n ≡ false
  product-past n h =
      sum_same 202 (λ d. times_power d w n) (λ d. false) differences differences-small (λ d hd. times-past w l d n (omega arith))
      ∙ sum-none differences

  pub limb-sums : {k m x : ℕ} → Limb w k x → 115 ≤ 64 * k → m ≤ 64 → 64 * k + m ≤ 273 → Sums w (64 * k) m x
  limb-sums {k} {m} {x} e lo hm hi = record { each = go }
    where
      go : (i : ℕ) → i < m → lane x i ≡ syndrome w (64 * k + i)
      go i h =
          e.each i (omega arith)
          ∙ sym
          (folded (64 * k + i) (omega arith) ∙ ap (product w (64 * k + i) ⊕◌) (product-past (64 * k + i + 273) (omega arith)) ∙ xor-false (product w (64 * k + i)))

  pub folded-sums : {k x y z : ℕ} → y < 2 ^ 64 → z < 2 ^ 64 → Limb w k x → Limb w (k + 4) y → Limb w (k + 5) z → 64 * k + 64 ≤ 273
      → Sums w (64 * k) 64 (bit_xor x (window (y ∷ z ∷ []) 17))
  folded-sums {k} {x} {y} {z} fy fz ex ey ez hk = record { each = go }
    where
      round : (i : ℕ) → i < 64 → (q : ℕ) → (i + 17) / 64 ≡ q → lane (get_or (y ∷ z ∷ []) q 0) ((i + 17) % 64) ≡ product w (64 * k + i + 273)
      round i h zero q = ey.each ((i + 17) % 64) (omega arith) ∙ ap (product w) (omega arith)
      round i h (suc zero) q = ez.each ((i + 17) % 64) (omega arith) ∙ ap (product w) (omega arith)
      round i h (suc (suc j)) q = absurd (omega arith)

      go : (i : ℕ) → i < 64 → lane (bit_xor x (window (y ∷ z ∷ []) 17)) i ≡ syndrome w (64 * k + i)
      go i h =
          lane_xor x (window (y ∷ z ∷ []) 17) i
          ∙ ap₂ ◌⊕◌ (ex.each i h) (lane-window (y ∷ z ∷ []) (fy, (fz, tt)) i h 17 ∙ round i h ((i + 17) / 64) refl)
          ∙ sym (folded (64 * k + i) (omega arith))
