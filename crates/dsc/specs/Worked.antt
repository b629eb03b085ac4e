-- Document 01's worked examples of the repair, 1 to 5, of the definitions, and examples with marks. The places are any of the generator's 18.
-- Assumes nothing.
use Rattle.std.specs.Prelude.{◌≡◌, Bool, true, false, not, ◌&&◌, ◌||◌, List, [], ◌∷◌, ℕ, ◌≤◌, length, take, drop}
use Rattle.gf2.specs.Polynomial.{zeros, poly}
use Rattle.dsc.specs.Code.{powers, CodeWord, weight}
use Rattle.dsc.specs.Repair.{protected, word_bytes, repaired_to, refused_with, repair_of}
use Rattle.dsc.specs.Marks.{marked_repair_of}

-- the generator as 187 bits
unfoldable pub generator_word : List Bool
generator_word = poly 187 powers

-- every place that is set in e is set in w
unfoldable pub among : List Bool → List Bool → Bool
among [] w = true
among (a ∷ e) [] = false
among (a ∷ e) (b ∷ w) = (not a || b) && among e w

-- the generator's first n places, by their highest powers
unfoldable pub first_places : ℕ → List Bool
first_places n = poly 187 (take n powers)

-- a frame of 26 bytes in whose protected part n places are set, all of them places of the generator
pub record SomePlaces (n : ℕ) (f : List ℕ) : Type 0 where
  pub size : length f ≡ 26
  pub places : among (protected f) generator_word ≡ true
  pub number : weight (protected f) ≡ n

pub record Worked : Type 0 where
  -- 1. 187 zeros are a code word, 0 repaired
  pub example1 : CodeWord (zeros 187)
  pub example1-clean : (f : List ℕ) → length f ≡ 26 → protected f ≡ zeros 187 → repair_of f ≡ repaired_to (zeros 187) 0
  -- 2. the generator itself is a code word with 18 ones
  pub example2 : CodeWord generator_word
  pub example2-ones : weight generator_word ≡ 18
  -- 3. eight of its 18 places set: repaired to zeros, count 8; there are such frames, for this example and the next two
  pub example3 : (f : List ℕ) → SomePlaces 8 f → repair_of f ≡ repaired_to (zeros 187) 8
  pub example3-some : (n : ℕ) → n ≤ 18 → SomePlaces n (word_bytes (first_places n))
  -- 4. nine of them: refusal 4
  pub example4 : (f : List ℕ) → SomePlaces 9 f → repair_of f ≡ refused_with 4
  -- 5. ten of them: repaired to the generator, count 8
  pub example5 : (f : List ℕ) → SomePlaces 10 f → repair_of f ≡ repaired_to generator_word 8

-- the generator's place that comes after n of its highest
unfoldable pub next_place : ℕ → List Bool
next_place n = poly 187 (take 1 (drop n powers))

-- marks on the generator's n highest places, where zeros are received, or zeros with a 1 in the place that comes next; that the bits under marks and
-- marks elsewhere do not matter is said of all frames (`DoubtfulMarks`)
pub record MarkedWorked : Type 0 where
  -- 17 marks: the zero word, and with the last place received as 1 the generator; nothing unmarked differs from either
  pub seventeen : marked_repair_of (word_bytes (zeros 187)) (word_bytes (first_places 17)) ≡ repaired_to (zeros 187) 0
  pub seventeen-and-one : marked_repair_of (word_bytes (next_place 17)) (word_bytes (first_places 17)) ≡ repaired_to generator_word 0
  -- 16 marks and a 1: refusal 4; 15 marks and a 1: the zero word, t = 1
  pub sixteen-and-one : marked_repair_of (word_bytes (next_place 16)) (word_bytes (first_places 16)) ≡ refused_with 4
  pub fifteen-and-one : marked_repair_of (word_bytes (next_place 15)) (word_bytes (first_places 15)) ≡ repaired_to (zeros 187) 1
  -- 18 marks: refusal 4
  pub eighteen-marks : marked_repair_of (word_bytes (zeros 187)) (word_bytes (first_places 18)) ≡ refused_with 4
