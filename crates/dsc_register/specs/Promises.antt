-- What the register engine promises, for every input. The record has one value, proved in proofs/Promises.antt.
-- Assumes nothing.
use Rattle.std.specs.Prelude.{◌≡◌, Bool, List, ◌++◌, ℕ, length}
use Rattle.gf2.specs.Polynomial.{zeros, remainder}
use Rattle.dsc.specs.Code.{generator_low, CodeWord}
use Rattle.dsc.specs.Majority.{flipped}
use Rattle.dsc.specs.Repair.{repair_of}
use Rattle.dsc_shift_register.specs.Register.{loaded, register_word, register_repair_of}

pub record RegisterEngine : Type 0 where
  -- document 02 i), the same answer and count on every word: whatever bytes arrive, the register comes to `repair_of`, an answer that holds word and count.
  -- The contract of `dsc_codec::repair`, the shipped engine, equates its answer with `repair_of`, and so does that of `repair` here
  pub same_answer : (f : List ℕ) → register_repair_of f ≡ repair_of f
  -- whichever 187 bits arrive, and however many of them were hit: the word that the majority over the check table gives
  pub same_word : (r : List Bool) → length r ≡ 187 → register_word r ≡ flipped r r
  -- the loaded register holds what remains of the word times x^82
  pub holds-remainder : (r : List Bool) → length r ≡ 187 → loaded r ≡ remainder generator_low 187 (r ++ zeros 82)
  -- it is zero for every code word, and for no other word of 187 bits
  pub zero-if-word : (w : List Bool) → CodeWord w → loaded w ≡ zeros 82
  pub word-if-zero : (w : List Bool) → length w ≡ 187 → loaded w ≡ zeros 82 → CodeWord w
