-- The two patterns, and how far 16 bits are from them. Assumes nothing.
use mathlib.Core.Path.{◌≡◌, refl, sym, ap, ap₂, ◌∙◌, subst}
use mathlib.Core.Bool.{Bool, true, false, not, cond}
use mathlib.Core.Logic.{◌≢◌}
use mathlib.Core.List.{List, [], ◌∷◌, map}
use Prim.Native.Nat.{ℕ, ◌+◌, ◌%◌, ◌≤◌, ◌<◌}
use native.Mathlib.Nat.{suc_inj}
use native.Mathlib.Omega.{arith}
use lib.Bits.{bit_xor}
use lib.Count.{ones}
use lib.Dec.{leb}
use lib.ListN.{length}
use borrow.Author.Tests.{le-leb, lt-leb, leb-true, leb-false}
use Rattle.std.specs.Prelude.{Option, Some, None}
use Rattle.bits.specs.Bits.{digit, odd, bits_of}
use Rattle.bits.proofs.Bits.{length-bits_of}
use Rattle.gf2.specs.Polynomial.{◌⊕◌, add}
use Rattle.lanes.proofs.Number.{add-bits_of}
use Rattle.dsc.specs.Code.{weight, dist}
use Rattle.dsc.proofs.Weight.{weight-bits_of}
use Rattle.dsc.proofs.Distance.{dist-hit}
use Rattle.sync_pattern.specs.Pattern.{pattern_word, pattern_bits, differing_from, sync_limit, fit_with, sync_of, sync_number, fitting_pattern, fitting_differing}
use Rattle.sync_pattern.specs.declared.Fit.{Fit}

-- ---- the distances from a word and from its complement make its length

pub dist-complement : (s w : List Bool) → length s ≡ length w → dist s w + dist s (map not w) ≡ length s
unfolding add digit
dist-complement [] [] h = refl
dist-complement [] (b ∷ w) h = absurd (omega arith)
dist-complement (a ∷ s) [] h = absurd (omega arith)
dist-complement (a ∷ s) (b ∷ w) h = omega (arith, first a b, dist-complement s w (suc_inj h))
  where
    first : (a b : Bool) → digit (a ⊕ b) + digit (a ⊕ not b) ≡ 1
    first true true = refl
    first true false = refl
    first false true = refl
    first false false = refl

pub length-pattern : (p : ℕ) → length (pattern_bits p) ≡ 16
length-pattern p = length-bits_of 16 (pattern_word p)

pub complement : pattern_bits 1 ≡ map not (pattern_bits 0)
unfolding bits_of odd
complement = refl

pub sixteen : (s : List Bool) → length s ≡ 16 → differing_from 0 s + differing_from 1 s ≡ 16
unfolding differing_from
sixteen s h =
    ap (λ (w : List Bool). dist s (pattern_bits 0) + dist s w) complement
    ∙ dist-complement s (pattern_bits 0) (h ∙ sym (length-pattern 0))
    ∙ h

pub differing-dist : (p : ℕ) (s : List Bool) → differing_from p s ≡ dist s (pattern_bits p)
unfolding differing_from
differing-dist p s = refl

-- a pattern that was hit differs from itself in as many bits
pub differing-hit : (p : ℕ) (e : List Bool) → length e ≡ 16 → differing_from p (add e (pattern_bits p)) ≡ weight e
unfolding differing_from
differing-hit p e h = dist-hit e (pattern_bits p) (h ∙ sym (length-pattern p))

-- by the numbers that hold the bits
pub differing-ones : (p n : ℕ) → differing_from p (bits_of 16 n) ≡ ones (bit_xor n (pattern_word p) % 65536)
unfolding differing_from
differing-ones p n = ap weight (add-bits_of 16 n (pattern_word p)) ∙ weight-bits_of 16 (bit_xor n (pattern_word p))

-- ---- the answer, by what the tests say

module _ (s : List Bool) where
  -- whether 0 fits, and whether 1 does
  chosen : (a b : Bool) → Option Fit
  chosen a b = cond a (fit_with 0 (differing_from 0 s)) (cond b (fit_with 1 (differing_from 1 s)) None)

  by_tests : (a b : Bool) → leb (differing_from 0 s) sync_limit ≡ a → leb (differing_from 1 s) sync_limit ≡ b → chosen a b ≡ sync_of s
  unfolding chosen sync_of
  by_tests a b ea eb = sym (ap₂ chosen ea eb)

  pub fits-0 : differing_from 0 s ≤ sync_limit → fit_with 0 (differing_from 0 s) ≡ sync_of s
  unfolding chosen
  fits-0 h = by_tests true (leb (differing_from 1 s) sync_limit) (le-leb (differing_from 0 s) sync_limit h) refl

  pub fits-1 : sync_limit < differing_from 0 s → differing_from 1 s ≤ sync_limit → fit_with 1 (differing_from 1 s) ≡ sync_of s
  unfolding chosen
  fits-1 g h = by_tests false true (lt-leb (differing_from 0 s) sync_limit g) (le-leb (differing_from 1 s) sync_limit h)

  pub fits-neither : sync_limit < differing_from 0 s → sync_limit < differing_from 1 s → None ≡ sync_of s
  unfolding chosen
  fits-neither g h = by_tests false false (lt-leb (differing_from 0 s) sync_limit g) (lt-leb (differing_from 1 s) sync_limit h)

  -- the three cases, and that there is no other
  pub data Answered : Option Fit → Type 0 where
    is-0 : differing_from 0 s ≤ sync_limit → Answered (fit_with 0 (differing_from 0 s))
    is-1 : differing_from 1 s ≤ sync_limit → Answered (fit_with 1 (differing_from 1 s))
    is-neither : sync_limit < differing_from 0 s → sync_limit < differing_from 1 s → Answered None

  pub answered : Answered (sync_of s)
  unfolding chosen
  answered = go (leb (differing_from 0 s) sync_limit) (leb (differing_from 1 s) sync_limit) refl refl
    where
      go : (a b : Bool) → leb (differing_from 0 s) sync_limit ≡ a → leb (differing_from 1 s) sync_limit ≡ b → Answered (sync_of s)
      go true b ea eb = subst Answered (by_tests true b ea eb) (is-0 (leb-true (differing_from 0 s) sync_limit ea))
      go false true ea eb = subst Answered (by_tests false true ea eb) (is-1 (leb-true (differing_from 1 s) sync_limit eb))
      go false false ea eb =
          subst Answered (by_tests false false ea eb) (is-neither (leb-false (differing_from 0 s) sync_limit ea) (leb-false (differing_from 1 s) sync_limit eb))

-- an answer by its number
pub fitting : (y : Option Fit) → sync_number y ≡ 0 → y ≡ fit_with (fitting_pattern y) (fitting_differing y)
fitting (Some x) e = refl
fitting None e = absurd (omega arith)

pub fitting-none : (y : Option Fit) → sync_number y ≢ 0 → y ≡ None
fitting-none (Some x) n = absurd (n refl)
fitting-none None n = refl

-- ---- what the functions' goals ask

pub ruleset counted = (differing-ones)

pub ruleset ways_out = (fits-0, fits-1, fits-neither)
