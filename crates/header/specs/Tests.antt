-- What a header is tested for (document 01, "When the box says no"), each a definition of its own. Assumes nothing.
use Rattle.std.specs.Prelude.{Bool, not, ◌&&◌, List, ℕ, ◌/◌, ◌^◌, eqb, take, drop}
use Rattle.bits.specs.Bits.{bits}
use Rattle.bits.specs.Layout.{fitb}
use Rattle.bits.specs.Segment.{free_widths, fixed_bits_hold}
use Rattle.gf2.specs.Polynomial.{member}
use Rattle.crc.specs.Crc.{crc32_of}
use Rattle.header.specs.Layout.{front_layout, extension_layout}
use Rattle.header.specs.Fields.{front_fields, extension_fields}
use Rattle.header.specs.declared.Front.{Front}
use Rattle.header.specs.declared.Header.{Header}

-- 10: a field is wider than its place
unfoldable pub too_wide : Header → Bool
too_wide r =
    not (fitb (free_widths front_layout) (front_fields r.front) && fitb (free_widths extension_layout) (extension_fields r.extension))

-- 12: byte 0, the sync byte of the packet header, is not 0x47
abbrev pub packet_sync_byte_wrong : Front → Bool
packet_sync_byte_wrong f = not (eqb (f.packet / 2 ^ 24) 0x47)

-- 13: the CRC over the 184 bytes after the first four does not come out zero
unfoldable pub crc_wrong : List ℕ → Bool
crc_wrong h = not (eqb (crc32_of (bits (drop 4 h))) 0)

-- 14: the multiplex form is not 0x1
abbrev pub form_unknown : Front → Bool
form_unknown f = not (eqb f.form 1)

-- 15: a reception state is 11
abbrev pub state_wrong : Front → Bool
state_wrong f = member 3 f.states

-- 15: the bit of the slot information that is fixed at 1 is 0
unfoldable pub slot_bit_wrong : List ℕ → Bool
slot_bit_wrong h = not (fixed_bits_hold front_layout (bits (take 99 h)))

-- 15: a bit of the extension that is fixed at 1 is 0
unfoldable pub extension_wrong : List ℕ → Bool
extension_wrong h = not (fixed_bits_hold extension_layout (bits (take 85 (drop 99 h))))
