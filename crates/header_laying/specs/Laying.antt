-- Laying a frame into a header, and taking it out (document 01, "The cable header"; document 02, a) and d). A frame may come with doubtful marks. Assumes
-- nothing.
use Rattle.std.specs.Prelude.{Bool, true, cond, List, ◌++◌, ℕ, eqb, take, drop, replicate}
use Rattle.bits.specs.Bits.{bits, bytes}
use Rattle.bits.specs.Refusal.{or_else}
use Rattle.dsc.specs.Marks.{Marking}
use Rattle.frame.specs.Read.{refusal_by, clean_by}
use Rattle.frame.specs.declared.Edition.{Edition}
use Rattle.header.specs.Header.{header_refusal, sealed}

-- the 204 bits of the AC frame in a header, from byte 99 on
abbrev pub ac_bits : List ℕ → List Bool
ac_bits h = take 204 (bits (take 85 (drop 99 h)))

-- the header with other bits in their place, and the CRC; all else stays
unfoldable pub with_ac : List ℕ → List Bool → List ℕ
with_ac h bs = sealed (take 99 h ++ bytes 85 (bs ++ drop 204 (bits (take 85 (drop 99 h)))))

-- the repaired 204 bits of a frame, marked as q says
abbrev pub repaired_bits : Marking → List ℕ → List Bool
repaired_bits q f = take 204 (bits (clean_by q f))

-- what laying in answers: the header is tested fully, then the frame by the edition named
unfoldable pub lay_in_number : Edition → Marking → (header frame : List ℕ) → ℕ
lay_in_number ed q h f = or_else (header_refusal h) (refusal_by ed q f)

-- and what it leaves in the header
unfoldable pub lay_in_of : Edition → Marking → (header frame : List ℕ) → List ℕ
lay_in_of ed q h f = cond (eqb (lay_in_number ed q h f) 0) (with_ac h (repaired_bits q f)) h

-- `take_out` tests the header alone, and writes 204 ones and the CRC instead
unfoldable pub take_out_of : List ℕ → List ℕ
take_out_of h = cond (eqb (header_refusal h) 0) (with_ac h (replicate 204 true)) h
