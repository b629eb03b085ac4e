-- Computed: the order of the tests, what the sample header is refused for, and the bytes that the CRC covers. Assumes nothing.
use mathlib.Core.Path.{◌≡◌, refl}
use mathlib.Core.Bool.{false}
use mathlib.Core.List.{List, [], ◌∷◌}
use Prim.Native.Nat.{ℕ}
use Rattle.gf2.specs.Polynomial.{add, scale, remainder}
use Rattle.bits.specs.Bits.{digit, odd, value, bits_of, bits, bytes}
use Rattle.bits.specs.Segment.{free_widths}
use Rattle.bits.specs.Refusal.{first_refusal, test_numbers}
use Rattle.crc.specs.Crc.{crc, crc32}
use Rattle.header.specs.Layout.{front_layout, extension_layout}
use Rattle.header.specs.Fields.{pairs, front_fields, extension_fields, Sized}
use Rattle.gf2.specs.Polynomial.{member}
use Rattle.header.specs.Tests.{too_wide}
use Rattle.header.specs.Header.{header_tests, sealed, record_tests, record_refusal}
use Rattle.header.specs.Worked.{sample}
use Rattle.header.specs.declared.Header.{Header}

pub header-order : (h : List ℕ) → test_numbers (header_tests h) ≡ 1 ∷ 12 ∷ 13 ∷ 14 ∷ 15 ∷ []
header-order h = refl

pub record-order : (r : Header) → test_numbers (record_tests r) ≡ 10 ∷ 12 ∷ 14 ∷ 15 ∷ []
record-order r = refl

-- a sample whose fields fit, and what it is refused for
abbrev pub Found : (packet form state number : ℕ) → Type 0
Found p n s number = (too_wide (sample p n s) ≡ false) × (record_refusal (sample p n s) ≡ number)

pub record Refusals : Type 0 where
  pub legal : Found 0x47000000 1 0 0
  pub form : Found 0x47000000 2 0 14
  pub state : Found 0x47000000 1 3 15
  pub packet-sync-first : Found 0x46000000 2 3 12
  pub form-first : Found 0x47000000 2 3 14
  pub state-wide : record_refusal (sample 0x47000000 1 4) ≡ 10
  pub form-wide : record_refusal (sample 0x47000000 16 0) ≡ 10

pub refusals : Refusals
unfolding sample record_refusal first_refusal too_wide member free_widths front_layout extension_layout pairs front_fields extension_fields
refusals =
    record {
      legal = (refl, refl);
      form = (refl, refl);
      state = (refl, refl);
      packet-sync-first = (refl, refl);
      form-first = (refl, refl);
      state-wide = refl;
      form-wide = refl;
    }

pub sample-sized : (p n s : ℕ) → Sized (sample p n s)
unfolding sample
sample-sized p n s = record { valid = refl; streams = refl; networks = refl; states = refl; slots = refl; ac = refl }

-- the first four bytes are not covered: of four bytes the CRC is that of none
first-four : sealed (1 ∷ 2 ∷ 3 ∷ 4 ∷ []) ≡ 1 ∷ 2 ∷ 3 ∷ 4 ∷ 0xFF ∷ 0xFF ∷ 0xFF ∷ 0xFF ∷ []
unfolding add scale remainder digit odd value bits_of bits bytes crc crc32 sealed
first-four = refl
