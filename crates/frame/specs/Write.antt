-- Writing a record (document 01, "The frame, bit by bit" and "When the box says no"; document 02, a), by the edition named. Assumes nothing.
use Rattle.std.specs.Prelude.{◌≡◌, Bool, cond, List, [], ◌∷◌, ◌++◌, ℕ, eqb, length}
use Rattle.bits.specs.Bits.{bytes, bits_of}
use Rattle.bits.specs.Segment.{pack_segments}
use Rattle.bits.specs.Refusal.{first_refusal}
use Rattle.crc.specs.Crc.{crc10}
use Rattle.gf2.specs.Polynomial.{zeros}
use Rattle.dsc.specs.Code.{parity_of}
use Rattle.sync_pattern.specs.Pattern.{pattern_bits}
use Rattle.frame.specs.Identification.{class_of, start_end_of, update_of, is_undefined}
use Rattle.frame.specs.Body.{layout}
use Rattle.frame.specs.Fields.{body_values, record_body, too_wide, over_limit}
use Rattle.frame.specs.declared.Edition.{Edition}
use Rattle.frame.specs.declared.Record.{Record}

-- what a record itself is tested for, in order
abbrev pub record_tests : Edition → Record → List (ℕ × Bool)
record_tests ed r =
    (6, is_undefined (class_of ed r.identification))
    ∷ (10, too_wide ed r)
    ∷ (9, over_limit (record_body ed r) r.latitude r.longitude)
    ∷ []

-- its refusal, 0 where it is legal
unfoldable pub record_refusal : Edition → Record → ℕ
record_refusal ed r = first_refusal (record_tests ed r)

-- the writer does not refuse it
abbrev pub Legal : Edition → Record → Type 0
Legal ed r = record_refusal ed r ≡ 0

-- B21 to B111: the identification and the details
unfoldable pub announced : Edition → Record → List Bool
announced ed r = bits_of 3 r.identification ++ pack_segments (layout (record_body ed r)) (body_values (record_body ed r) r)

-- B17 to B121: start/end, update, identification, details, CRC
unfoldable pub message_bits : Edition → Record → List Bool
message_bits ed r =
    bits_of 2 (start_end_of (class_of ed r.identification))
    ++ (bits_of 2 (update_of (class_of ed r.identification) r.update)
    ++ (announced ed r ++ crc10 (announced ed r)))

-- the whole frame: reference, pattern, message, parity, filler
unfoldable pub frame_of : Edition → Record → List ℕ
frame_of ed r =
    bytes 26
    (bits_of 1 r.reference ++ (pattern_bits r.pattern ++ (message_bits ed r ++ (parity_of (message_bits ed r) ++ zeros 4))))

-- what `write` answers for a buffer of n bytes
unfoldable pub write_number : Edition → Record → ℕ → ℕ
write_number ed r n = cond (eqb n 26) (record_refusal ed r) 1

-- and what it leaves in the buffer s
unfoldable pub write_of : Edition → Record → List ℕ → List ℕ
write_of ed r s = cond (eqb (write_number ed r (length s)) 0) (frame_of ed r) s
