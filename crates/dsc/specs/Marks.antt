-- The repair with doubtful marks (document 02, d): of the 187 received bits some are marked, and count for nothing. No way of finding the code word is
-- in here: the definition tries every word that is free under the marks. Assumes nothing.
use Rattle.std.specs.Prelude.{◌≡◌, Bool, true, false, not, cond, ◌&&◌, List, [], ◌∷◌, ◌++◌, map, ℕ, zero, suc, ◌+◌, ◌-◌, ◌*◌, ◌/◌, ◌≤◌, eqb, ltb, length}
use Rattle.gf2.specs.Polynomial.{add}
use Rattle.dsc.specs.Code.{weight}
use Rattle.dsc.specs.Repair.{protected, ball, Decoded, corrected, beyond, first_code_word, repaired_to, refused_with, repair_of}
use Rattle.dsc.specs.declared.Answer.{Answer}

-- ---- a frame that comes with marks or without

pub data Marking : Type 0 where
  unmarked : Marking
  marked : List ℕ → Marking

-- the frame has 26 bytes, and the marks too
abbrev pub whole : Marking → List ℕ → Bool
whole unmarked f = eqb (length f) 26
whole (marked m) f = eqb (length f) 26 && eqb (length m) 26

-- ---- marks: a bit for each bit of a word, 1 where that is doubtful

-- the word w with the bit b under every mark
unfoldable pub filled : Bool → (marks w : List Bool) → List Bool
filled b [] w = w
filled b (m ∷ ms) [] = []
filled b (m ∷ ms) (a ∷ w) = cond m b a ∷ filled b ms w

-- what stands in the unmarked places of w
abbrev pub unmarked_in : (marks w : List Bool) → List Bool
unmarked_in ms w = filled false ms w

-- t: in how many unmarked places two words differ
abbrev pub unmarked_dist : (marks r c : List Bool) → ℕ
unmarked_dist ms r c = weight (unmarked_in ms (add r c))

-- 2t+s at most 17, for the s marks that are set
abbrev pub Few : (marks : List Bool) → (t : ℕ) → Type 0
Few ms t = 2 * t + weight ms ≤ 17

-- ---- decoding

-- every word that is free under the marks and differs from w in at most t unmarked places
unfoldable pub marked_ball : ℕ → (marks w : List Bool) → List (List Bool)
marked_ball t [] w = ball t w
marked_ball t (m ∷ ms) [] = [] ∷ []
marked_ball t (true ∷ ms) (b ∷ w) = map (false ∷◌) (marked_ball t ms w) ++ map (true ∷◌) (marked_ball t ms w)
marked_ball zero (false ∷ ms) (b ∷ w) = map (b ∷◌) (marked_ball zero ms w)
marked_ball (suc t) (false ∷ ms) (b ∷ w) = map (b ∷◌) (marked_ball (suc t) ms w) ++ map (not b ∷◌) (marked_ball t ms w)

-- t is at most (17 - s)/2
abbrev pub radius : (marks : List Bool) → ℕ
radius ms = (17 - weight ms) / 2

-- s is over 17
abbrev pub over_marked : (marks : List Bool) → Bool
over_marked ms = ltb 17 (weight ms)

-- the words with 2t+s at most 17; there is none where s is over 17
unfoldable pub candidates : (marks r : List Bool) → List (List Bool)
candidates ms r = cond (over_marked ms) [] (marked_ball (radius ms) ms r)

-- the code word among them, if there is one
unfoldable pub decode_marked : (marks r : List Bool) → Decoded
decode_marked ms r = first_code_word (candidates ms r)

-- ---- the answer

unfoldable pub marked_answer : (marks r : List Bool) → Decoded → Answer
marked_answer ms r (corrected c) = repaired_to c (unmarked_dist ms r c)
marked_answer ms r beyond = refused_with 4

-- what the box answers, for any bytes of a frame and of its marks
unfoldable pub marked_repair_of : (frame marks : List ℕ) → Answer
marked_repair_of f m =
    cond (whole (marked m) f)
    (marked_answer (protected m) (protected f) (decode_marked (protected m) (protected f))) (refused_with 1)

-- ---- both repairs

-- the repair: demand 3's where no marks come with the frame
abbrev pub repair_by : Marking → List ℕ → Answer
repair_by unmarked f = repair_of f
repair_by (marked m) f = marked_repair_of f m

-- the marks, where there are any, have 26 bytes
abbrev pub MarksSized : Marking → Type 0
MarksSized unmarked = Unit {0}
MarksSized (marked m) = length m ≡ 26

-- how many places were hit that count: those of e, the unmarked ones only
abbrev pub hits_by : Marking → (e : List Bool) → ℕ
hits_by unmarked e = weight e
hits_by (marked m) e = weight (unmarked_in (protected m) e)

-- so many hits are not too many: demand 3's eight, or 2t+s at most 17
abbrev pub FewBy : Marking → ℕ → Type 0
FewBy unmarked n = n ≤ 8
FewBy (marked m) n = Few (protected m) n
