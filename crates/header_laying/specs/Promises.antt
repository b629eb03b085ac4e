-- What laying in and taking out promise, in the words of demand 2 and of documents 01 and 02, a), e), j) and d). The records have one value each, `Laying` for every
-- edition and for frames with marks and without, proved in proofs/Promises.antt. Assumes nothing.
use Rattle.std.specs.Prelude.{◌≡◌, true, ◌≢◌, List, ◌++◌, ℕ, length, take, drop, replicate}
use Rattle.bits.specs.Bits.{bits, bytes, Bytes}
use Rattle.gf2.specs.Polynomial.{zeros}
use Rattle.dsc.specs.Marks.{Marking, repair_by}
use Rattle.frame.specs.Read.{identification_in, read_by, read_of, refusal_by}
use Rattle.frame.specs.Promises.{NotSafety, ComesBack, SameAnswers}
use Rattle.frame.specs.declared.Edition.{Edition}
use Rattle.sync_pattern.specs.Pattern.{pattern_bits}
use Rattle.frame.specs.declared.Tuner.{Tuner}
use Rattle.frame.specs.declared.Record.{Record}
use Rattle.frame.specs.declared.Reading.TheVariants.{Accepted}
use Rattle.header.specs.Header.{front_in, header_refusal}
use Rattle.header_laying.specs.Laying.{ac_bits, repaired_bits, lay_in_number, lay_in_of, take_out_of}

-- two headers agree outside the 204 AC bits and the CRC
pub record SameOutsideAc (h k : List ℕ) : Type 0 where
  pub size : length h ≡ length k
  -- bytes 0 to 98
  pub front : take 99 h ≡ take 99 k
  -- the low half of byte 124, and bytes 125 to 183
  pub rest : take 476 (drop 996 (bits h)) ≡ take 476 (drop 996 (bits k))

-- of a frame that is marked as q says
pub record Laying (ed : Edition) (q : Marking) : Type 0 where
  -- after laying in the header is accepted
  pub laid-accepted : (h f : List ℕ) → lay_in_number ed q h f ≡ 0 → header_refusal (lay_in_of ed q h f) ≡ 0
  -- and its 204 bits are the frame's repaired ones
  pub laid-bits : (h f : List ℕ) → lay_in_number ed q h f ≡ 0 → ac_bits (lay_in_of ed q h f) ≡ repaired_bits q f
  -- so that, with the filler, they are read as the frame's record, with whichever tuner is then told, the count 0 and no bit that differs
  pub laid-read : (t u : Tuner) (h f : List ℕ) (r : Record) (d : ℕ) → header_refusal h ≡ 0 → read_by ed q t f ≡ Accepted r d
      → ComesBack r u 0 0 (read_of ed u (bytes 26 (ac_bits (lay_in_of ed q h f) ++ zeros 4)))
  -- and B1 to B16 are the clean pattern, whatever bits of them differed
  pub laid-pattern : (t : Tuner) (h f : List ℕ) (r : Record) (d : ℕ) → header_refusal h ≡ 0 → read_by ed q t f ≡ Accepted r d
      → take 16 (drop 1 (ac_bits (lay_in_of ed q h f))) ≡ pattern_bits r.pattern
  -- everything else stays, the change number too
  pub laid-outside : (h f : List ℕ) → SameOutsideAc (lay_in_of ed q h f) h
  pub laid-front : (h f : List ℕ) → front_in (lay_in_of ed q h f) ≡ front_in h
  -- laying in twice is laying in the second
  pub laid-twice : (p : Marking) (h f g : List ℕ) → lay_in_number ed q h f ≡ 0 → refusal_by ed p g ≡ 0 → lay_in_of ed p (lay_in_of ed q h f) g ≡ lay_in_of ed p h g
  -- taking out after laying in is taking out alone
  pub taken-laid : (h f : List ℕ) → lay_in_number ed q h f ≡ 0 → take_out_of (lay_in_of ed q h f) ≡ take_out_of h
  -- so that a header that carried no frame comes back byte for byte
  pub back-again : (h f : List ℕ) → Bytes h → ac_bits h ≡ replicate 204 true → lay_in_number ed q h f ≡ 0 → take_out_of (lay_in_of ed q h f) ≡ h
  -- the header is tested before the frame
  pub header-first : (h f : List ℕ) → header_refusal h ≢ 0 → lay_in_number ed q h f ≡ header_refusal h
  pub then-frame : (h f : List ℕ) → header_refusal h ≡ 0 → lay_in_number ed q h f ≡ refusal_by ed q f
  -- a refusal changes nothing
  pub laid-unchanged : (h f : List ℕ) → lay_in_number ed q h f ≢ 0 → lay_in_of ed q h f ≡ h
  -- a frame that is answered as another one is laid in as that one: so marks outside B17 to B203 do not matter, nor do the bits under marks, and with no mark set it
  -- is laid in as without marks (`marked-frames` of `frame`)
  pub laid_same : (p : Marking) (h f g : List ℕ) → SameAnswers ed q f ed p g
      → (lay_in_number ed q h f ≡ lay_in_number ed p h g) × (lay_in_of ed q h f ≡ lay_in_of ed p h g)
  -- which edition is named does not matter to a frame whose repaired identification is not 5 or 6
  pub laid-alike : (other : Edition) (h f : List ℕ) → NotSafety (identification_in (repair_by q f).word)
      → (lay_in_number ed q h f ≡ lay_in_number other q h f) × (lay_in_of ed q h f ≡ lay_in_of other q h f)

pub record TakingOut : Type 0 where
  -- taking out leaves 204 ones in an accepted header, and all else as it was
  pub taken-accepted : (h : List ℕ) → header_refusal h ≡ 0 → header_refusal (take_out_of h) ≡ 0
  pub taken-bits : (h : List ℕ) → header_refusal h ≡ 0 → ac_bits (take_out_of h) ≡ replicate 204 true
  pub taken-outside : (h : List ℕ) → SameOutsideAc (take_out_of h) h
  -- a refusal changes nothing
  pub taken-unchanged : (h : List ℕ) → header_refusal h ≢ 0 → take_out_of h ≡ h
