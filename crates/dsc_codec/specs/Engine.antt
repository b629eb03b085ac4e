-- How the shipped repair comes to its answer. Only the functions of this crate speak of it; what the box promises (Repair, Promises of dsc) does not.
-- Assumes nothing.
use Rattle.std.specs.Prelude.{◌≡◌, Bool, List, Option, Some, None}
use Rattle.dsc.specs.Repair.{decode, repaired_to, refused_with, answer_to}
use Rattle.dsc_words.specs.Words.{held}
use Rattle.dsc_codec.specs.declared.Nearest.{Nearest}

-- what the engine finds in the received word r makes the answer to it
abbrev pub Finds : List Bool → Option Nearest → Type 0
Finds r (Some x) = repaired_to (held x.word) x.places ≡ answer_to r (decode r)
Finds r None = refused_with 4 ≡ answer_to r (decode r)
