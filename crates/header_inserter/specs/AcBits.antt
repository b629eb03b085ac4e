-- The AC bits of a header's part. No promise speaks of them. Assumes nothing.
use Rattle.std.specs.Prelude.{Bool, cond, List, ◌++◌, ℕ, eqb, take, drop}
use Rattle.bits.specs.Bits.{bits, bytes}
use Rattle.frame.specs.declared.Cleaned.{Cleaned}
use Rattle.header_laying.specs.Laying.{with_ac}

-- the part of a header that starts at byte 99, with other bits in the place of its first 204
abbrev pub with_first : List Bool → List ℕ → List ℕ
with_first bs s = bytes 85 (bs ++ drop 204 (bits (take 85 s))) ++ drop 85 s

-- the header h with the bits of a cleaned frame, or as it was where that is a refusal
unfoldable pub with_cleaned : List ℕ → Cleaned → List ℕ
with_cleaned h c = cond (eqb c.number 0) (with_ac h (take 204 (bits c.frame))) h
