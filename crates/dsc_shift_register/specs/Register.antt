-- The textbook decoder of the code: a shift register that divides by the generator, and the majority of the 17 check sums
-- through one place, taken from the register's 82 cells as it turns. The cells are a polynomial of degree below 82, as the register of gf2 has
-- them, so the sum on a check row is that of CheckTable; the places from 82 on hold 0.
-- Assumes nothing.
use Rattle.std.specs.Prelude.{Bool, false, cond, ◌&&◌, List, [], ◌∷◌, ℕ, eqb, leb, length}
use Rattle.gf2.specs.Polynomial.{◌⊕◌, zeros}
use Rattle.gf2.specs.Register.{step, feed}
use Rattle.dsc.specs.Code.{generator_low, dist, all_zero}
use Rattle.dsc.specs.CheckTable.{failures}
use Rattle.dsc.specs.Repair.{protected, repaired_to, refused_with}
use Rattle.dsc.specs.declared.Answer.{Answer}

-- the state of the register when a word has gone in, first bit first: what remains of the word times x^82
unfoldable pub loaded : List Bool → List Bool
loaded r = feed generator_low (zeros 82) r

-- the place that is decided: 186 + 82, where the word's first bit, x^186, stands in the word times x^82. A turn is once more times x, and brings the
-- next bit there
abbrev pub decided_place : ℕ
decided_place = 268

-- the bits w in their order, from the state s on: each flipped where at least nine of the 17 check sums through the decided place are odd;
-- then the register turns, with no bit going in
abbrev pub decided : List Bool → List Bool → List Bool
decided s [] = []
decided s (b ∷ w) = (b ⊕ leb 9 (failures s decided_place)) ∷ decided (step generator_low s false) w

-- the word that the register comes to
unfoldable pub register_word : List Bool → List Bool
register_word r = decided (loaded r) r

-- the answer to 187 bits, by two tests: that word is a code word, and differs in at most eight places
unfoldable pub register_answer : List Bool → Answer
register_answer r =
    cond (all_zero (loaded (register_word r)) && leb (dist r (register_word r)) 8) (repaired_to (register_word r) (dist r (register_word r))) (refused_with 4)

-- the answer to any bytes
unfoldable pub register_repair_of : List ℕ → Answer
register_repair_of f = cond (eqb (length f) 26) (register_answer (protected f)) (refused_with 1)
