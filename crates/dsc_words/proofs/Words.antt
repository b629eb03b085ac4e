-- The word that three machine words hold: its coefficients, its sum with another, its weight. Assumes nothing.
use mathlib.Core.Path.{◌≡◌, refl, sym, ap, ap₂, ◌∙◌}
use mathlib.Core.Bool.{Bool, true, false, cond}
use mathlib.Core.List.{List, [], ◌∷◌, ◌++◌}
use mathlib.Core.Logic.{◌≢◌}
use Prim.Native.Nat.{ℕ, zero, suc, ◌+◌, ◌-◌, ◌/◌, ◌%◌, ◌^◌, ◌<◌}
use native.Mathlib.Omega.{arith}
use lib.Bits.{bit_xor}
use lib.Count.{ones}
use lib.Dec.{eqb, ltb}
use lib.ListN.{length, get_or, length-append}
use borrow.Author.Tests.{eq-eqb, ne_eqb, eqb-true, eqb-false, ltb-true, ltb-false}
use Rattle.bits.specs.Bits.{digit, odd, bits_of}
use Rattle.bits.proofs.Bits.{length-bits_of, get_or-bits_of}
use Rattle.gf2.specs.Polynomial.{add}
use Rattle.gf2.proofs.Sum.{add-append}
use Rattle.lanes.specs.Lane.{lane, bit_at}
use Rattle.lanes.proofs.Lanes.{lane_past}
use Rattle.lanes.proofs.Number.{add-bits_of}
use Rattle.dsc.specs.Code.{count, weight}
use Rattle.dsc.specs.CheckTable.{coefficient, upto}
use Rattle.dsc.proofs.CheckRows.{coefficient-at, coefficient-out}
use Rattle.dsc.proofs.Weight.{weight-append, weight-whole}
use Rattle.dsc_words.specs.Words.{word_of, held}
use Rattle.dsc_words.specs.declared.Word.{Word}

-- ---- coefficients of joined rows

coefficient-low : (x y : List Bool) (p : ℕ) → p < length y → coefficient (x ++ y) p ≡ coefficient y p
coefficient-low [] y p h = refl
coefficient-low (a ∷ x) y p h =
    ap (λ t. cond t a (coefficient (x ++ y) p)) (ne_eqb p (length (x ++ y)) (λ e. omega (arith, length-append x y))) ∙ coefficient-low x y p h

coefficient-high : (x y : List Bool) (p : ℕ) → coefficient (x ++ y) (length y + p) ≡ coefficient x p
coefficient-high [] y p = coefficient-out y (length y + p) (omega arith)
coefficient-high (a ∷ x) y p = go (coefficient-high x y p) (eqb p (length x)) refl
  where
    c : Bool
    c = coefficient (x ++ y) (length y + p)

    go : c ≡ coefficient x p → (t : Bool) → eqb p (length x) ≡ t → cond (eqb (length y + p) (length (x ++ y))) a c ≡ cond t a (coefficient x p)
    go ih true e = ap (λ t. cond t a c) (eq-eqb (length y + p) (length (x ++ y)) (omega (arith, length-append x y, eqb-true)))
    go ih false e =
        let ne : p ≢ length x = eqb-false p (length x) e in
        ap (λ t. cond t a c) (ne_eqb (length y + p) (length (x ++ y)) (λ q. ne (omega (arith, length-append x y)))) ∙ ih

coefficient-bits_of : (k v p : ℕ) → p < k → coefficient (bits_of k v) p ≡ lane v p
unfolding lane
coefficient-bits_of k v p h =
    coefficient-at (bits_of k v) p (k - 1 - p) (omega (arith, length-bits_of k v))
    ∙ get_or-bits_of k v (k - 1 - p) (omega arith)
    ∙ ap (λ n. odd (v / 2 ^ n)) (omega arith)

-- ---- the word

module _ (low middle high : ℕ) where
  two-low : length (bits_of 64 middle ++ bits_of 64 low) ≡ 128
  two-low = length-append (bits_of 64 middle) (bits_of 64 low) ∙ ap₂ ◌+◌ (length-bits_of 64 middle) (length-bits_of 64 low)

  pub length-word_of : length (word_of low middle high) ≡ 187
  unfolding word_of
  length-word_of = length-append (bits_of 59 high) (bits_of 64 middle ++ bits_of 64 low) ∙ ap₂ ◌+◌ (length-bits_of 59 high) two-low

  pub at_low : (p : ℕ) → p < 64 → coefficient (word_of low middle high) p ≡ lane low p
  unfolding word_of
  at_low p h =
      coefficient-low (bits_of 59 high) (bits_of 64 middle ++ bits_of 64 low) p (omega (arith, two-low))
      ∙ coefficient-low (bits_of 64 middle) (bits_of 64 low) p (omega (arith, length-bits_of 64 low))
      ∙ coefficient-bits_of 64 low p h

  pub at-middle : (p : ℕ) → p < 64 → coefficient (word_of low middle high) (64 + p) ≡ lane middle p
  unfolding word_of
  at-middle p h =
      coefficient-low (bits_of 59 high) (bits_of 64 middle ++ bits_of 64 low) (64 + p) (omega (arith, two-low))
      ∙ ap (λ n. coefficient (bits_of 64 middle ++ bits_of 64 low) (n + p)) (sym (length-bits_of 64 low))
      ∙ coefficient-high (bits_of 64 middle) (bits_of 64 low) p
      ∙ coefficient-bits_of 64 middle p h

  pub at_high : (p : ℕ) → p < 59 → coefficient (word_of low middle high) (128 + p) ≡ lane high p
  unfolding word_of
  at_high p h =
      ap (λ n. coefficient (word_of low middle high) (n + p)) (sym two-low)
      ∙ coefficient-high (bits_of 59 high) (bits_of 64 middle ++ bits_of 64 low) p
      ∙ coefficient-bits_of 59 high p h

  module _ (fits : high < 2 ^ 59) where
    -- past the 187 bits there is nothing
    pub all-high : (p : ℕ) → lane high p ≡ coefficient (word_of low middle high) (128 + p)
    all-high p = go (ltb p 59) refl
      where
        go : (t : Bool) → ltb p 59 ≡ t → lane high p ≡ coefficient (word_of low middle high) (128 + p)
        go true e = sym (at_high p (ltb-true p 59 e))
        go false e =
            let l = ltb-false p 59 e in
            lane_past high 59 p fits l ∙ sym (coefficient-out (word_of low middle high) (128 + p) (omega (arith, length-word_of)))

    pub bit_word : (m : ℕ) → m < 192 → bit_at (low ∷ middle ∷ high ∷ []) m ≡ coefficient (word_of low middle high) m
    bit_word m h = go (m / 64) refl
      where
        c : ℕ → Bool
        c = coefficient (word_of low middle high)

        go : (q : ℕ) → m / 64 ≡ q → lane (get_or (low ∷ middle ∷ high ∷ []) q 0) (m % 64) ≡ c m
        go zero e = sym (at_low (m % 64) (omega arith)) ∙ ap c (omega arith)
        go (suc zero) e = sym (at-middle (m % 64) (omega arith)) ∙ ap c (omega arith)
        go (suc (suc zero)) e = all-high (m % 64) ∙ ap c (omega arith)
        go (suc (suc (suc q))) e = absurd (omega arith)

pub length-held : (w : Word) → length (held w) ≡ 187
length-held w = length-word_of w.low w.middle w.high

-- ---- sums

pub add-word_of : (a b c d e f : ℕ) → add (word_of a b c) (word_of d e f) ≡ word_of (bit_xor a d) (bit_xor b e) (bit_xor c f)
unfolding word_of
add-word_of a b c d e f =
    add-append (bits_of 59 c) (bits_of 64 b ++ bits_of 64 a) (bits_of 59 f) (bits_of 64 e ++ bits_of 64 d) (length-bits_of 59 c ∙ sym (length-bits_of 59 f))
    ∙ ap₂ ◌++◌ (add-bits_of 59 c f)
    (add-append (bits_of 64 b) (bits_of 64 a) (bits_of 64 e) (bits_of 64 d) (length-bits_of 64 b ∙ sym (length-bits_of 64 e))
    ∙ ap₂ ◌++◌ (add-bits_of 64 b e) (add-bits_of 64 a d))

-- ---- weight

pub weight-word_of : (low middle high : ℕ) → low < 2 ^ 64 → middle < 2 ^ 64 → high < 2 ^ 59 → weight (word_of low middle high) ≡ ones low + ones middle + ones high
unfolding word_of
weight-word_of low middle high hl hm hh =
    omega (
      arith,
      weight-append (bits_of 59 high) (bits_of 64 middle ++ bits_of 64 low),
      weight-append (bits_of 64 middle) (bits_of 64 low),
      weight-whole 59 high hh,
      weight-whole 64 middle hm,
      weight-whole 64 low hl,
    )

-- the lanes below k that are set, one by one
pub count-lanes : (k v : ℕ) → v < 2 ^ k → count (lane v) (upto k) ≡ ones v
unfolding lane bits_of
count-lanes k v h = row k ∙ weight-whole k v h
  where
    row : (k : ℕ) → count (lane v) (upto k) ≡ weight (bits_of k v)
    row zero = refl
    row (suc k) = ap (digit (lane v k) +◌) (row k)
