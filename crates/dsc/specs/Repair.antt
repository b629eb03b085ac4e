-- The repair asked for alone, as document 01 has it: the code word within eight places, and the number of places.
-- No way of finding that word is in here: the definition tries every word within eight places.
-- Assumes nothing.
use Rattle.std.specs.Prelude.{◌≡◌, Bool, not, cond, List, [], ◌∷◌, ◌++◌, map, ◌≢◌, ℕ, zero, suc, ◌≤◌, eqb, length, take, drop, replicate}
use Rattle.bits.specs.Bits.{bits, bytes}
use Rattle.gf2.specs.Polynomial.{zeros}
use Rattle.dsc.specs.Code.{CodeWord, dist, is_code_word}
use Rattle.dsc.specs.declared.Outcome.{Outcome}
use Rattle.dsc.specs.declared.Outcome.TheVariants as outcome
use Rattle.dsc.specs.declared.Answer.{Answer}

-- ---- the protected part of a frame's bytes

-- B17 to B203
unfoldable pub protected : List ℕ → List Bool
protected f = take 187 (drop 17 (bits f))

-- 26 bytes that hold a word at B17 to B203 and 0 elsewhere
unfoldable pub word_bytes : List Bool → List ℕ
word_bytes w = bytes 26 (zeros 17 ++ (w ++ zeros 4))

-- ---- decoding

-- every word that differs from w in at most t places: the Hamming ball of radius t
unfoldable pub ball : ℕ → List Bool → List (List Bool)
ball t [] = [] ∷ []
ball zero (b ∷ w) = map (b ∷◌) (ball zero w)
ball (suc t) (b ∷ w) = map (b ∷◌) (ball (suc t) w) ++ map (not b ∷◌) (ball t w)

pub data Decoded : Type 0 where
  corrected : List Bool → Decoded
  beyond : Decoded

unfoldable pub first_code_word : List (List Bool) → Decoded
first_code_word [] = beyond
first_code_word (w ∷ ws) = cond (is_code_word w) (corrected w) (first_code_word ws)

-- the code word within eight places of r, if there is one
unfoldable pub decode : List Bool → Decoded
decode r = first_code_word (ball 8 r)

-- ---- the answer

-- repaired to c, in n places
abbrev pub repaired_to : List Bool → ℕ → Answer
repaired_to c n = record { outcome = outcome.Repaired n; word = word_bytes c }

-- a refusal: its number, and no word
abbrev pub refused_with : ℕ → Answer
refused_with n = record { outcome = outcome.Refused n; word = replicate 26 0 }

unfoldable pub answer_to : List Bool → Decoded → Answer
answer_to r (corrected c) = repaired_to c (dist r c)
answer_to r beyond = refused_with 4

-- what the box answers, for any bytes
unfoldable pub repair_of : List ℕ → Answer
repair_of f = cond (eqb (length f) 26) (answer_to (protected f) (decode (protected f))) (refused_with 1)

-- document 01's number of an outcome, 0 where it was repaired
abbrev pub outcome_number : Outcome → ℕ
outcome_number (outcome.Repaired n) = 0
outcome_number (outcome.Refused n) = n

-- the number of repaired places, 0 on a refusal
abbrev pub outcome_places : Outcome → ℕ
outcome_places (outcome.Repaired n) = n
outcome_places (outcome.Refused n) = 0

-- the same of an answer
abbrev pub number_of : Answer → ℕ
number_of a = outcome_number a.outcome

abbrev pub places_of : Answer → ℕ
places_of a = outcome_places a.outcome

-- what an answer leaves of a buffer w that is lent for its word: the word where it was repaired, else what was there
abbrev pub left_in : Answer → List ℕ → List ℕ
left_in a w = left a.outcome
  where
    left : Outcome → List ℕ
    left (outcome.Repaired n) = a.word
    left (outcome.Refused n) = w

-- ---- demand 3, of the answer a to the bytes f

pub record Repairs (f : List ℕ) (a : Answer) : Type 0 where
  -- 1 exactly if the frame is not 26 bytes
  pub short : length f ≢ 26 → a ≡ refused_with 1
  pub long : length f ≡ 26 → number_of a ≢ 1
  -- a code word within eight places is the answer, with the number of places in which it differs
  pub found : length f ≡ 26 → (c : List Bool) → CodeWord c → dist (protected f) c ≤ 8 → a ≡ repaired_to c (dist (protected f) c)
  -- 4 exactly if there is none
  pub none : length f ≡ 26 → ((c : List Bool) → CodeWord c → dist (protected f) c ≤ 8 → ⊥) → a ≡ refused_with 4
