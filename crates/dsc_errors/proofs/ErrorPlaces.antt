-- The error word: each place has the majority of its own rows. More than eight places are too many. Assumes nothing.
use mathlib.Core.Path.{◌≡◌, refl, sym, ap, ◌∙◌}
use mathlib.Core.Bool.{Bool}
use mathlib.Core.List.{List, [], ◌∷◌}
use Prim.Native.Nat.{ℕ, zero, suc, ◌+◌, ◌-◌, ◌*◌, ◌/◌, ◌%◌, ◌^◌, ◌≤◌, ◌<◌}
use native.Mathlib.Nat.{mod-lt}
use native.Mathlib.Omega.{arith}
use lib.Count.{ones}
use lib.Dec.{leb}
use lib.ListN.{get_or}
use lib.Pow.{pow_pos, shr_lt}
use Rattle.lanes.specs.Lane.{lane}
use Rattle.lanes.proofs.Lanes.{lane-shr, lane-shl-high}
use Rattle.dsc.specs.CheckTable.{syndrome, failures}
use Rattle.dsc_words.specs.Words.{word_of}
use Rattle.dsc_sums.specs.Sums.{Sums, AllSums}
use Rattle.dsc_errors.specs.Errors.{Wrapped, MovedMajority, ErrorsOf, ManyErrors}
use Rattle.dsc_errors.proofs.Held.{Row, Holds, held-five, at256, at320, at384, majority-held}
use Rattle.dsc_errors.proofs.Flips.{Majorities, flips, flips-none, flips-more, flips-next, flips-last}
use Rattle.dsc_words.proofs.Words.{bit_word}

sums-hold : {w : List Bool} {n x : ℕ} → n + 64 ≤ 273 → Sums w n 64 x → Holds (syndrome w) n 64 x
sums-hold {w} {n} l s = record { each = λ i h. s.each i h ∙ ap (syndrome w) (let e : n + i ≡ (n + i) % 273 = omega arith in e) }

sums-row : {w : List Bool} {a b c d e : ℕ} → AllSums w a b c d e → Row (syndrome w) a b c d (e * 2 ^ 47 % 2 ^ 64)
sums-row {w} {e} s =
    record {
      at0 = sums-hold (omega arith) s.rows0;
      at64 = sums-hold (omega arith) s.rows64;
      at128 = sums-hold (omega arith) s.rows128;
      at192 = sums-hold (omega arith) s.rows192;
      end = record { each = last };
    }
  where
    last : (r : ℕ) → 47 ≤ r → r < 64 → lane (e * 2 ^ 47 % 2 ^ 64) r ≡ syndrome w ((209 + r) % 273)
    last r l h =
        ap (lane (e * 2 ^ 47 % 2 ^ 64)) (let q : r ≡ 47 + (r - 47) = omega arith in q)
        ∙ lane-shl-high e 47 (r - 47) (omega arith)
        ∙ s.rows256.each (r - 47) (omega arith)
        ∙ ap (syndrome w) (omega arith)

-- the highest word without the lanes past the 187 places
pub cut_fits : (z : ℕ) → z * 2 ^ 5 % 2 ^ 64 / 2 ^ 5 < 2 ^ 59
cut_fits z = shr_lt 59 5 (mod-lt (z * 2 ^ 5) (pow_pos 64))

cut-lane : (z i : ℕ) → i < 59 → lane (z * 2 ^ 5 % 2 ^ 64 / 2 ^ 5) i ≡ lane z i
cut-lane z i h = lane-shr (z * 2 ^ 5 % 2 ^ 64) 5 i ∙ lane-shl-high z 5 i (omega arith)

-- ---- the majorities of 64 places

module _ {w : List Bool} {a b c d e fourth : ℕ} (s : AllSums w a b c d e) (w4 : Wrapped (e * 2 ^ 47 % 2 ^ 64) a fourth) where
  low-places : {x : ℕ} → MovedMajority (a ∷ b ∷ c ∷ d ∷ fourth ∷ []) x → Majorities w 0 64 x
  low-places {x} m =
      let r = sums-row s in
      record { each = majority-held (syndrome w) 0 x (held-five (omega arith) r.at0 r.at64 r.at128 r.at192 (at256 r w4)) m }

  module _ {fifth : ℕ} (w5 : Wrapped a b fifth) where
    middle-places : {y : ℕ} → MovedMajority (b ∷ c ∷ d ∷ fourth ∷ fifth ∷ []) y → Majorities w 64 64 y
    middle-places {y} m =
        let r = sums-row s in
        record { each = majority-held (syndrome w) 64 y (held-five (omega arith) r.at64 r.at128 r.at192 (at256 r w4) (at320 r w5)) m }

    high-places : {sixth z : ℕ} → Wrapped b c sixth → MovedMajority (c ∷ d ∷ fourth ∷ fifth ∷ sixth ∷ []) z → Majorities w 128 59 (z * 2 ^ 5 % 2 ^ 64 / 2 ^ 5)
    high-places {z} w6 m =
        let r = sums-row s in
        let five = held-five (omega arith) r.at128 r.at192 (at256 r w4) (at320 r w5) (at384 r w6) in
        record { each = λ i h. cut-lane z i h ∙ majority-held (syndrome w) 128 z five m i (omega arith) }

-- ---- the word of all three, and more than eight places in the first, the first two, or all

module _ {a b c d e fourth x : ℕ} (w4 : Wrapped (e * 2 ^ 47 % 2 ^ 64) a fourth) (mx : MovedMajority (a ∷ b ∷ c ∷ d ∷ fourth ∷ []) x) (fx : x < 2 ^ 64) where
  pub many-low : 8 < ones x → ManyErrors a b c d e
  many-low g =
      record { each = λ w l s. omega (arith, flips-last w w, ap (flips w) l, flips-more w 64 123, flips-next w (low-places s w4 mx) fx, flips-none w) }

  module _ {fifth y : ℕ} (w5 : Wrapped a b fifth) (my : MovedMajority (b ∷ c ∷ d ∷ fourth ∷ fifth ∷ []) y) (fy : y < 2 ^ 64) where
    first_two : {w : List Bool} → AllSums w a b c d e → flips w 128 ≡ ones x + ones y
    first_two {w} s = omega (arith, flips-next w (middle-places s w4 w5 my) fy, flips-next w (low-places s w4 mx) fx, flips-none w)

    pub many-middle : 8 < ones x + ones y → ManyErrors a b c d e
    many-middle g = record { each = λ w l s. omega (arith, flips-last w w, ap (flips w) l, flips-more w 128 59, first_two s) }

    module _ {sixth z : ℕ} (w6 : Wrapped b c sixth) (mz : MovedMajority (c ∷ d ∷ fourth ∷ fifth ∷ sixth ∷ []) z) where
      pub many-high : 8 < ones x + ones y + ones (z * 2 ^ 5 % 2 ^ 64 / 2 ^ 5) → ManyErrors a b c d e
      many-high g =
          record { each = λ w l s. omega (arith, flips-last w w, ap (flips w) l, flips-next w (high-places s w4 w5 w6 mz) (cut_fits z), first_two s) }

      majorities : {w : List Bool} → AllSums w a b c d e → (p : ℕ) → p < 187 → (q : ℕ) → p / 64 ≡ q
          → lane (get_or (x ∷ y ∷ z * 2 ^ 5 % 2 ^ 64 / 2 ^ 5 ∷ []) q 0) (p % 64) ≡ leb 9 (failures w p)
      majorities {w} s p h zero q = (low-places s w4 mx).each (p % 64) (omega arith) ∙ ap (λ p. leb 9 (failures w p)) (omega arith)
      majorities {w} s p h (suc zero) q = (middle-places s w4 w5 my).each (p % 64) (omega arith) ∙ ap (λ p. leb 9 (failures w p)) (omega arith)
      majorities {w} s p h (suc (suc zero)) q = (high-places s w4 w5 w6 mz).each (p % 64) (omega arith) ∙ ap (λ p. leb 9 (failures w p)) (omega arith)
      majorities s p h (suc (suc (suc k))) q = absurd (omega arith)

      pub error-word : ErrorsOf a b c d e (word_of x y (z * 2 ^ 5 % 2 ^ 64 / 2 ^ 5))
      error-word = record { each = λ w s p h. sym (bit_word x y (z * 2 ^ 5 % 2 ^ 64 / 2 ^ 5) (cut_fits z) p (omega arith)) ∙ majorities s p h (p / 64) refl }
