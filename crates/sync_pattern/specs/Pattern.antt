-- The synchronising bits B1 to B16 (document 01, "The frame, bit by bit"; document 02, e). The notice gives no value: its note 3 only says that B4 to B16 are
-- the low 13 bits of the synchronising signal. The value is document 01's, which has it from ARIB STD-B31. Assumes nothing.
use Rattle.std.specs.Prelude.{Bool, cond, List, ℕ, ◌-◌, eqb, leb, Option, Some, None}
use Rattle.bits.specs.Bits.{bits_of}
use Rattle.dsc.specs.Code.{dist}
use Rattle.sync_pattern.specs.declared.Fit.{Fit}

abbrev pattern0 : ℕ
pattern0 = 0b0011010111101110

-- the bits of a pattern, as a number: those of pattern 0, or else their complement
abbrev pub pattern_word : ℕ → ℕ
pattern_word p = cond (eqb p 0) pattern0 (0b1111111111111111 - pattern0)

-- the bits of a pattern
abbrev pub pattern_bits : ℕ → List Bool
pattern_bits p = bits_of 16 (pattern_word p)

-- in how many bits 16 bits differ from a pattern
unfoldable pub differing_from : (pattern : ℕ) → List Bool → ℕ
differing_from p s = dist s (pattern_bits p)

-- "Accept up to three differing bits from a pattern"
abbrev pub sync_limit : ℕ
sync_limit = 3

-- the answer that bits fit pattern p and differ from it in d
abbrev pub fit_with : (p d : ℕ) → Option Fit
fit_with p d = Some (record { pattern = p; differing = d })

-- the pattern test: which pattern 16 bits fit, and in how many they differ from it, or neither
unfoldable pub sync_of : List Bool → Option Fit
sync_of s =
    cond (leb (differing_from 0 s) sync_limit) (fit_with 0 (differing_from 0 s))
    (cond (leb (differing_from 1 s) sync_limit) (fit_with 1 (differing_from 1 s)) None)

-- ---- document 01's number and the values of an answer: 0 with the pattern and how many bits differ from it, or refusal 3

abbrev pub sync_number : Option Fit → ℕ
sync_number (Some x) = 0
sync_number None = 3

abbrev pub fitting_pattern : Option Fit → ℕ
fitting_pattern (Some x) = x.pattern
fitting_pattern None = 0

abbrev pub fitting_differing : Option Fit → ℕ
fitting_differing (Some x) = x.differing
fitting_differing None = 0
