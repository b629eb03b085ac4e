-- What the pattern test promises, in the words of document 02, e). The record has one value, proved in proofs/Promises.antt. Assumes nothing.
use Rattle.std.specs.Prelude.{◌≡◌, Bool, not, List, map, ℕ, ◌+◌, ◌-◌, ◌≤◌, ◌<◌, length, None}
use Rattle.gf2.specs.Polynomial.{add}
use Rattle.dsc.specs.Code.{weight}
use Rattle.sync_pattern.specs.Pattern.{pattern_bits, differing_from, fit_with, sync_of}

-- four bits or more differ from each of the two patterns
pub record FarFromBoth (s : List Bool) : Type 0 where
  pub from-0 : 4 ≤ differing_from 0 s
  pub from-1 : 4 ≤ differing_from 1 s

-- p is a pattern, and d, at most three, is the number of bits that differ from it
pub record Fitting (s : List Bool) (p d : ℕ) : Type 0 where
  pub pattern : p < 2
  pub differing : d ≡ differing_from p s
  pub few : d ≤ 3

pub record PatternTest : Type 0 where
  -- pattern 1 is the complement of pattern 0, bit by bit
  pub complement : pattern_bits 1 ≡ map not (pattern_bits 0)
  -- the patterns differ in all sixteen: the bits that differ from one and those that differ from the other make 16
  pub sixteen : (s : List Bool) → length s ≡ 16 → differing_from 0 s + differing_from 1 s ≡ 16
  -- so only one can fit
  pub only_one : (s : List Bool) (p q d e : ℕ) → length s ≡ 16 → Fitting s p d → Fitting s q e → p ≡ q
  -- the answer is a pattern exactly where at most three bits differ from it, with their number
  pub fits : (s : List Bool) (p d : ℕ) → length s ≡ 16 → Fitting s p d → sync_of s ≡ fit_with p d
  pub fits-only : (s : List Bool) (p d : ℕ) → sync_of s ≡ fit_with p d → Fitting s p d
  -- and neither exactly where four or more differ from each of the two
  pub neither : (s : List Bool) → FarFromBoth s → sync_of s ≡ None
  pub neither-only : (s : List Bool) → sync_of s ≡ None → FarFromBoth s
  -- whichever pattern was sent, and whichever three bits or fewer of it were hit: that pattern, and the number of bits hit
  pub sent : (p : ℕ) (e : List Bool) → p < 2 → length e ≡ 16 → weight e ≤ 3 → sync_of (add e (pattern_bits p)) ≡ fit_with p (weight e)
  -- hit in four to twelve bits it is neither, and from thirteen on it is taken for the other one
  pub lost : (p : ℕ) (e : List Bool) → p < 2 → length e ≡ 16 → 4 ≤ weight e → weight e ≤ 12 → sync_of (add e (pattern_bits p)) ≡ None
  pub mistaken : (p : ℕ) (e : List Bool) → p < 2 → length e ≡ 16 → 13 ≤ weight e → sync_of (add e (pattern_bits p)) ≡ fit_with (1 - p) (16 - weight e)
