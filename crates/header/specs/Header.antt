-- Reading and writing a header (document 01, "The cable header" and "When the box says no"). Assumes nothing.
use Rattle.std.specs.Prelude.{◌≡◌, Bool, cond, not, ◌||◌, List, [], ◌∷◌, ◌++◌, ℕ, eqb, length, take, drop}
use Rattle.bits.specs.Bits.{bits, bytes}
use Rattle.bits.specs.Segment.{pack_segments, unpack_segments}
use Rattle.bits.specs.Refusal.{first_refusal}
use Rattle.crc.specs.Crc.{crc32}
use Rattle.header.specs.Layout.{front_layout, extension_layout}
use Rattle.header.specs.Fields.{front_fields, front_of, extension_fields, extension_of}
use Rattle.header.specs.Tests.{too_wide, packet_sync_byte_wrong, crc_wrong, form_unknown, state_wrong, slot_bit_wrong, extension_wrong}
use Rattle.header.specs.declared.Front.{Front}
use Rattle.header.specs.declared.Extension.{Extension}
use Rattle.header.specs.declared.Header.{Header}
use Rattle.header.specs.declared.HeaderReading.{HeaderReading}

-- ---- reading

-- what stands in the bytes h
unfoldable pub front_in : List ℕ → Front
front_in h = front_of (unpack_segments front_layout (bits (take 99 h)))

unfoldable pub extension_in : List ℕ → Extension
extension_in h = extension_of (unpack_segments extension_layout (bits (take 85 (drop 99 h))))

abbrev pub header_in : List ℕ → Header
header_in h = record { front = front_in h; extension = extension_in h }

-- the tests, in order
abbrev pub header_tests : List ℕ → List (ℕ × Bool)
header_tests h =
    (1, not (eqb (length h) 188))
    ∷ (12, packet_sync_byte_wrong (front_in h))
    ∷ (13, crc_wrong h)
    ∷ (14, form_unknown (front_in h))
    ∷ (15, slot_bit_wrong h || (state_wrong (front_in h) || extension_wrong h))
    ∷ []

unfoldable pub header_refusal : List ℕ → ℕ
header_refusal h = first_refusal (header_tests h)

-- a header of zeros, which stands beside a refusal
unfoldable pub no_header : Header
no_header = record { front = front_of []; extension = extension_of [] }

-- what `read` answers
unfoldable pub header_read_of : List ℕ → HeaderReading
header_read_of h = record { number = header_refusal h; header = cond (eqb (header_refusal h) 0) (header_in h) no_header }

-- ---- writing

-- 184 bytes with their CRC after them
unfoldable pub sealed : List ℕ → List ℕ
sealed s = s ++ bytes 4 (crc32 (bits (drop 4 s)))

-- the header's bytes
unfoldable pub header_of : Header → List ℕ
header_of r =
    sealed
    (bytes 99 (pack_segments front_layout (front_fields r.front)) ++ bytes 85 (pack_segments extension_layout (extension_fields r.extension)))

-- what a record is tested for, in order
abbrev pub record_tests : Header → List (ℕ × Bool)
record_tests r =
    (10, too_wide r)
    ∷ (12, packet_sync_byte_wrong r.front)
    ∷ (14, form_unknown r.front)
    ∷ (15, state_wrong r.front)
    ∷ []

-- its refusal, 0 where it is legal
unfoldable pub record_refusal : Header → ℕ
record_refusal r = first_refusal (record_tests r)

-- the writer does not refuse it
abbrev pub Legal : Header → Type 0
Legal r = record_refusal r ≡ 0

-- what `write` answers for a buffer of n bytes
unfoldable pub write_number : Header → ℕ → ℕ
write_number r n = cond (eqb n 188) (record_refusal r) 1

-- and what it leaves in the buffer s
unfoldable pub write_of : Header → List ℕ → List ℕ
write_of r s = cond (eqb (write_number r (length s)) 0) (header_of r) s
