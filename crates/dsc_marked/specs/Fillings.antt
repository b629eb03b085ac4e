-- How the repair with marks comes to its answer: from the received bits with 0 under all marks, then from those with 1. Only the functions of this crate
-- speak of it; the rules (Marks of dsc) do not. Assumes nothing.
use Rattle.std.specs.Prelude.{◌≡◌, Bool, List, ℕ, ◌≤◌, Option, Some, None}
use Rattle.dsc.specs.Code.{CodeWord, dist}
use Rattle.dsc.specs.Repair.{repaired_to, refused_with}
use Rattle.dsc.specs.Marks.{unmarked_dist, Few, decode_marked, marked_answer}
use Rattle.dsc_words.specs.Words.{held}
use Rattle.dsc_words.specs.declared.Word.{Word}
use Rattle.dsc_codec.specs.declared.Nearest.{Nearest}

-- ---- one word, tested: r are the received bits, ms their marks

-- c differs from r in n unmarked places, and 2n+s is at most 17
pub record Passed (ms r c : List Bool) (n : ℕ) : Type 0 where
  pub places : n ≡ unmarked_dist ms r c
  pub few : Few ms (unmarked_dist ms r c)

-- 2t+s of c is over 17
pub record Failed (ms r c : List Bool) : Type 0 where
  pub many : Few ms (unmarked_dist ms r c) → ⊥

-- the word w is found exactly where it passes
abbrev pub Tested : (ms r : List Bool) → Word → Option Nearest → Type 0
Tested ms r w (Some x) = (x.word ≡ w) × Passed ms r (held w) x.places
Tested ms r w None = Failed ms r (held w)

-- ---- one filling u

-- the word, in so many places, makes the answer
abbrev pub Answering : (ms r : List Bool) → Nearest → Type 0
Answering ms r x = repaired_to (held x.word) x.places ≡ marked_answer ms r (decode_marked ms r)

-- no code word with 2t+s at most 17 lies within eight places of u
pub record NoneNear (ms r u : List Bool) : Type 0 where
  pub each : (c : List Bool) → CodeWord c → Few ms (unmarked_dist ms r c) → dist u c ≤ 8 → ⊥

-- what is found within eight places of u
abbrev pub Tried : (ms r u : List Bool) → Option Nearest → Type 0
Tried ms r u (Some x) = Answering ms r x
Tried ms r u None = NoneNear ms r u

-- ---- both

-- what is found makes the answer
abbrev pub MarkedFinds : (ms r : List Bool) → Option Nearest → Type 0
MarkedFinds ms r (Some x) = Answering ms r x
MarkedFinds ms r None = refused_with 4 ≡ marked_answer ms r (decode_marked ms r)
