-- Windows: 64 bits of a row of words from any bit on, as two shifts give them; sums and counts of windows. Assumes nothing.
use mathlib.Core.Path.{◌≡◌, refl, ap, ap₂, ◌∙◌}
use mathlib.Core.Bool.{Bool, true, false, cond, ◌||◌}
use mathlib.Core.List.{List, [], ◌∷◌}
use mathlib.Core.Logic.{◌≢◌}
use Prim.Native.Nat.{ℕ, zero, suc, ◌+◌, ◌-◌, ◌*◌, ◌/◌, ◌%◌, ◌^◌, ◌≤◌, ◌<◌}
use native.Mathlib.Omega.{arith}
use lib.Bits.{bit_xor, bit_or}
use lib.Dec.{eqb, ltb}
use lib.ListN.{get_or}
use lib.Pow.{pow_pos}
use borrow.Author.Tests.{ltb-true, ltb-false, eqb-true, eqb-false}
use Rattle.lanes.specs.Lane.{lane, bit_at}
use Rattle.lanes.proofs.Lanes.{lane_or, lane-shr, lane-shl-high, lane-shl-low, lane_past}

-- every word has 64 bits
abbrev pub Fit : List ℕ → Type 0
Fit [] = Unit {0}
Fit (x ∷ ws) = (x < 2 ^ 64) × Fit ws

fit_at : (ws : List ℕ) → Fit ws → (k : ℕ) → get_or ws k 0 < 2 ^ 64
fit_at [] f k = pow_pos 64
fit_at (x ∷ ws) f zero = f.0
fit_at (x ∷ ws) f (suc k) = fit_at ws f.1 k

-- the window from bit p on: the bits of two words, or of one where a word begins there
abbrev pub window : List ℕ → ℕ → ℕ
window ws p =
    cond (eqb (p % 64) 0) (get_or ws (p / 64) 0)
    (bit_or (get_or ws (p / 64) 0 / 2 ^ (p % 64)) (get_or ws (p / 64 + 1) 0 * 2 ^ (64 - p % 64) % 2 ^ 64))

or-false : (b : Bool) → b || false ≡ b
or-false true = refl
or-false false = refl

module _ (ws : List ℕ) (fit : Fit ws) (i : ℕ) (h : i < 64) where
  two-words : (p : ℕ) → p % 64 ≢ 0 → lane (bit_or (get_or ws (p / 64) 0 / 2 ^ (p % 64)) (get_or ws (p / 64 + 1) 0 * 2 ^ (64 - p % 64) % 2 ^ 64)) i ≡ bit_at ws (i + p)
  two-words p ne = lane_or (x / 2 ^ s) (y * 2 ^ (64 - s) % 2 ^ 64) i ∙ go (ltb (s + i) 64) refl
    where
      s : ℕ
      s = p % 64

      x : ℕ
      x = get_or ws (p / 64) 0

      y : ℕ
      y = get_or ws (p / 64 + 1) 0

      go : (t : Bool) → ltb (s + i) 64 ≡ t → lane (x / 2 ^ s) i || lane (y * 2 ^ (64 - s) % 2 ^ 64) i ≡ bit_at ws (i + p)
      go true e =
          let l : s + i < 64 = ltb-true (s + i) 64 e in
          ap₂ ◌||◌ (lane-shr x s i) (lane-shl-low y (64 - s) i (omega arith) h)
          ∙ or-false (lane x (s + i))
          ∙ ap₂ (λ q r. lane (get_or ws q 0) r) (omega arith) (omega arith)
      go false e =
          let l : 64 ≤ s + i = ltb-false (s + i) 64 e in
          let j : i ≡ 64 - s + (s + i - 64) = omega arith in
          ap₂ ◌||◌ (lane-shr x s i ∙ lane_past x 64 (s + i) (fit_at ws fit (p / 64)) l)
          (ap (lane (y * 2 ^ (64 - s) % 2 ^ 64)) j ∙ lane-shl-high y (64 - s) (s + i - 64) (omega arith))
          ∙ ap₂ (λ q r. lane (get_or ws q 0) r) (omega arith) (omega arith)

  pub lane-window : (p : ℕ) → lane (window ws p) i ≡ bit_at ws (i + p)
  lane-window p = go (eqb (p % 64) 0) refl
    where
      go : (t : Bool) → eqb (p % 64) 0 ≡ t
          → lane (cond t (get_or ws (p / 64) 0) (bit_or (get_or ws (p / 64) 0 / 2 ^ (p % 64)) (get_or ws (p / 64 + 1) 0 * 2 ^ (64 - p % 64) % 2 ^ 64))) i ≡ bit_at ws (i + p)
      go true e = let z = eqb-true (p % 64) 0 e in ap₂ (λ q r. lane (get_or ws q 0) r) (omega arith) (omega arith)
      go false e = two-words p (eqb-false (p % 64) 0 e)

-- windows added up
abbrev pub window_sum : List ℕ → List ℕ → ℕ
window_sum ws [] = 0
window_sum ws (p ∷ []) = window ws p
window_sum ws (p ∷ q ∷ ps) = bit_xor (window ws p) (window_sum ws (q ∷ ps))
