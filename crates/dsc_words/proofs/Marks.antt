-- A bit under every mark, in machine words: by an operation on words that puts it there in each lane. Assumes nothing.
use mathlib.Core.Path.{◌≡◌, refl, sym, ap, ap₂, ◌∙◌}
use mathlib.Core.Bool.{Bool, true, false, cond, ◌&&◌, ◌||◌}
use mathlib.Core.List.{List, [], ◌∷◌, ◌++◌}
use Prim.Native.Nat.{ℕ, zero, suc}
use native.Mathlib.Nat.{suc_inj}
use native.Mathlib.Omega.{arith}
use lib.Bits.{bit_xor, bit_and, bit_or}
use lib.ListN.{length}
use Rattle.bits.specs.Bits.{bits_of}
use Rattle.bits.proofs.Bits.{length-bits_of}
use Rattle.gf2.specs.Polynomial.{◌⊕◌}
use Rattle.lanes.specs.Lane.{lane}
use Rattle.lanes.proofs.Lanes.{lane_xor, lane_and, lane_or}
use Rattle.dsc.specs.Marks.{filled}
use Rattle.dsc_words.specs.Words.{word_of}

-- op x m is x with the bit b where m has 1
pub record Fills (b : Bool) (op : ℕ → ℕ → ℕ) : Type 0 where
  pub each : (x m i : ℕ) → lane (op x m) i ≡ cond (lane m i) b (lane x i)

pub clears : Fills false (λ x m. bit_xor x (bit_and x m))
clears = record { each = λ x m i. lane_xor x (bit_and x m) i ∙ ap (lane x i ⊕◌) (lane_and x m i) ∙ bit (lane x i) (lane m i) }
  where
    bit : (a m : Bool) → a ⊕ (a && m) ≡ cond m false a
    bit true true = refl
    bit true false = refl
    bit false true = refl
    bit false false = refl

pub sets : Fills true bit_or
sets = record { each = λ x m i. lane_or x m i ∙ bit (lane x i) (lane m i) }
  where
    bit : (a m : Bool) → a || m ≡ cond m true a
    bit true true = refl
    bit true false = refl
    bit false true = refl
    bit false false = refl

-- ---- rows

filled-append : (b : Bool) (m n x y : List Bool) → length m ≡ length x → filled b (m ++ n) (x ++ y) ≡ filled b m x ++ filled b n y
unfolding filled
filled-append b [] n [] y e = refl
filled-append b [] n (a ∷ x) y e = absurd (omega arith)
filled-append b (c ∷ m) n [] y e = absurd (omega arith)
filled-append b (c ∷ m) n (a ∷ x) y e = ap (cond c b a ∷◌) (filled-append b m n x y (suc_inj e))

module _ {b : Bool} {op : ℕ → ℕ → ℕ} (fills : Fills b op) where
  filled-bits_of : (k x m : ℕ) → filled b (bits_of k m) (bits_of k x) ≡ bits_of k (op x m)
  unfolding filled bits_of lane
  filled-bits_of zero x m = refl
  filled-bits_of (suc k) x m = ap₂ ◌∷◌ (sym (fills.each x m k)) (filled-bits_of k x m)

  -- the word low, middle, high beside the marks l, m, h
  pub filled-word_of : (low middle high l m h : ℕ) → word_of (op low l) (op middle m) (op high h) ≡ filled b (word_of l m h) (word_of low middle high)
  unfolding word_of
  filled-word_of low middle high l m h =
      let same : (k x y : ℕ) → length (bits_of k x) ≡ length (bits_of k y) = λ k x y. length-bits_of k x ∙ sym (length-bits_of k y) in
      sym
      (filled-append b (bits_of 59 h) (bits_of 64 m ++ bits_of 64 l) (bits_of 59 high) (bits_of 64 middle ++ bits_of 64 low) (same 59 h high)
      ∙ ap₂ ◌++◌ (filled-bits_of 59 high h)
      (filled-append b (bits_of 64 m) (bits_of 64 l) (bits_of 64 middle) (bits_of 64 low) (same 64 m middle)
      ∙ ap₂ ◌++◌ (filled-bits_of 64 middle m) (filled-bits_of 64 low l)))
