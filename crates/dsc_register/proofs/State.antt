-- The register's state as it turns: its check sums are those of the word, of the rows that lie as far back as the register was shifted.
-- Assumes nothing.
use mathlib.Core.Path.{◌≡◌, refl, sym, ap, ap₂, ◌∙◌}
use mathlib.Core.Bool.{Bool, true, false}
use mathlib.Core.List.{List, [], ◌∷◌, ◌++◌}
use Prim.Native.Nat.{ℕ, suc, ◌+◌, ◌-◌, ◌%◌, ◌<◌}
use native.Mathlib.Omega.{arith}
use lib.Dec.{leb}
use lib.ListN.{length, length-append, length-replicate}
use Rattle.gf2.specs.Polynomial.{◌⊕◌, zeros, remainder, check_bits}
use Rattle.gf2.specs.Register.{step, feed}
use Rattle.gf2.proofs.Register.{length-step, length-feed, feed-check, turn-remainder}
use Rattle.dsc.specs.Code.{generator_low, CodeWord, all_zero, is_code_word}
use Rattle.dsc.specs.CheckTable.{differences, syndrome, failures}
use Rattle.dsc.specs.Majority.{flipped}
use Rattle.dsc.proofs.Word.{length-low, length-word, all-zeros, zeros-all, word-tested, tested-word}
use Rattle.dsc.proofs.CheckRows.{count_map, count_same, differences-below, syndrome-zeros, syndrome-shift, word_even}
use Rattle.dsc.proofs.EvenRows.{even-zeros, remainder-syndrome, even-word}
use Rattle.dsc_shift_register.specs.Register.{loaded, decided, decided_place, register_word}

-- the 82 cells s have the check sums of r times x^k
pub record Shifted (r : List Bool) (k : ℕ) (s : List Bool) : Type 0 where
  pub cells : length s ≡ 82
  pub sums : (q : ℕ) → q < 273 → syndrome s q ≡ syndrome r ((q + 273 - k) % 273)

-- ---- the word goes in

module _ (r : List Bool) (h : length r ≡ 187) where
  pub loaded-remainder : loaded r ≡ remainder generator_low 187 (r ++ zeros 82)
  unfolding loaded check_bits
  loaded-remainder =
      ap (λ n. feed generator_low (zeros n) r) (sym length-low)
      ∙ feed-check generator_low r (omega (arith, length-low))
      ∙ ap₂ (λ k n. remainder generator_low k (r ++ zeros n)) h length-low

  pub loaded-shifted : Shifted r 82 (loaded r)
  unfolding loaded
  loaded-shifted =
      record {
        cells = length-feed generator_low (zeros 82) r ∙ length-replicate 82 false;
        sums = λ q hq.
            ap (λ u. syndrome u q) loaded-remainder
            ∙ remainder-syndrome 187 (r ++ zeros 82) q hq (omega arith) (length-append r (zeros 82) ∙ ap₂ ◌+◌ h (length-replicate 82 false))
            ∙ syndrome-shift 82 r q hq (omega arith);
      }

-- ---- the register turns

pub turn-shifted : (r s : List Bool) (k : ℕ) → k < 273 → Shifted r k s → Shifted r (suc k) (step generator_low s false)
turn-shifted r s k h f =
    record {
      cells = length-step generator_low s false ∙ f.cells;
      sums = λ q hq.
          ap (λ u. syndrome u q) (turn-remainder generator_low s)
          ∙ remainder-syndrome 1 (s ++ zeros 1) q hq (omega arith) (length-append s (zeros 1) ∙ omega (arith, f.cells))
          ∙ syndrome-shift 1 s q hq (omega (arith, f.cells))
          ∙ f.sums ((q + 273 - 1) % 273) (omega arith)
          ∙ ap (syndrome r) (let e : ((q + 273 - 1) % 273 + 273 - k) % 273 ≡ (q + 273 - suc k) % 273 = omega arith in e);
    }

-- ---- each place is decided as by the check table

failures-shifted : (r s : List Bool) (k p : ℕ) → k + p ≡ decided_place → Shifted r k s → failures s decided_place ≡ failures r p
failures-shifted r s k p h f =
    count_map (syndrome s) (λ d. (decided_place + d) % 273) differences
    ∙ count_same 273 (λ d. syndrome s ((decided_place + d) % 273)) (λ d. syndrome r ((p + d) % 273)) differences differences-below
    (λ d hd.
    f.sums ((decided_place + d) % 273) (omega arith)
    ∙ ap (syndrome r) (let e : ((decided_place + d) % 273 + 273 - k) % 273 ≡ (p + d) % 273 = omega arith in e))
    ∙ sym (count_map (syndrome r) (λ d. (p + d) % 273) differences)

decided-flipped : (r s w : List Bool) (k : ℕ) → k + length w ≡ suc decided_place → Shifted r k s → decided s w ≡ flipped r w
decided-flipped r s [] k h f = refl
decided-flipped r s (b ∷ w) k h f =
    ap₂ ◌∷◌ (ap (λ n. b ⊕ leb 9 n) (failures-shifted r s k (length w) (omega arith) f))
    (decided-flipped r (step generator_low s false) w (suc k) (omega arith) (turn-shifted r s k (omega arith) f))

pub register-flipped : (r : List Bool) → length r ≡ 187 → register_word r ≡ flipped r r
unfolding register_word
register-flipped r h = decided-flipped r (loaded r) r 82 (omega arith) (loaded-shifted r h)

-- ---- the state is zero exactly for code words

pub word-zero : (w : List Bool) → CodeWord w → loaded w ≡ zeros 82
word-zero w k =
    let f = loaded-shifted w (length-word w k) in
    even-zeros (loaded w) (omega (arith, f.cells)) (λ q hq. f.sums q hq ∙ word_even w k ((q + 273 - 82) % 273) (omega arith)) ∙ ap zeros f.cells

module _ (w : List Bool) (h : length w ≡ 187) where
  pub zero_word : loaded w ≡ zeros 82 → CodeWord w
  zero_word e =
      even-word w h
      λ q hq.
      ap (syndrome w) (let z : q ≡ ((q + 82) % 273 + 273 - 82) % 273 = omega arith in z)
      ∙ sym ((loaded-shifted w h).sums ((q + 82) % 273) (omega arith))
      ∙ ap (λ u. syndrome u ((q + 82) % 273)) e
      ∙ syndrome-zeros 82 ((q + 82) % 273)

  pub zero-tested : all_zero (loaded w) ≡ is_code_word w
  zero-tested = go (all_zero (loaded w)) (is_code_word w) refl refl
    where
      go : (a b : Bool) → all_zero (loaded w) ≡ a → is_code_word w ≡ b → a ≡ b
      go true b e t = sym (word-tested w (zero_word (zeros-all (loaded w) e ∙ ap zeros (loaded-shifted w h).cells))) ∙ t
      go false true e t = sym e ∙ ap all_zero (word-zero w (tested-word w h t)) ∙ all-zeros 82
      go false false e t = refl
