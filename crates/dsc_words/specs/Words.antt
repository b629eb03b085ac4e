-- A word of 187 bits in machine words. Assumes nothing.
use Rattle.std.specs.Prelude.{Bool, List, ◌++◌, ℕ}
use Rattle.bits.specs.Bits.{bits_of}
use Rattle.dsc_words.specs.declared.Word.{Word}

-- the word of 187 bits that three machine words hold: bit n of the three is the coefficient of x^n
unfoldable pub word_of : ℕ → ℕ → ℕ → List Bool
word_of low middle high = bits_of 59 high ++ (bits_of 64 middle ++ bits_of 64 low)

-- the same of the struct
abbrev pub held : Word → List Bool
held w = word_of w.low w.middle w.high
