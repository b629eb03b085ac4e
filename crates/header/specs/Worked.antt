-- Worked examples of the header: document 01's 12, and the CRC of one header, as a program in another language has it. Assumes nothing.
use Rattle.std.specs.Prelude.{◌≡◌, List, [], ◌∷◌, ◌++◌, ℕ, length, drop, replicate}
use Rattle.header.specs.Header.{header_refusal, record_refusal, header_of}
use Rattle.header.specs.declared.Header.{Header}

-- a header with the given packet header, form, and reception state of stream 1: all streams valid and of network 1, stream i with the id i,
-- all slots empty, no frame
unfoldable pub sample : (packet form state : ℕ) → Header
sample p n s =
    record {
      front =
          record {
            packet = p;
            sync = 0;
            change = 0;
            method = 0;
            form = n;
            valid = replicate 15 1;
            streams = 1 ∷ 2 ∷ 3 ∷ 4 ∷ 5 ∷ 6 ∷ 7 ∷ 8 ∷ 9 ∷ 10 ∷ 11 ∷ 12 ∷ 13 ∷ 14 ∷ 15 ∷ [];
            networks = replicate 15 1;
            states = s ∷ replicate 14 0;
            carried = 0;
            emergency = 0;
            slots = replicate 52 0;
          };
      extension = record { ac = replicate 25 255 ++ 15 ∷ [] };
    }

pub record Worked : Type 0 where
  -- 12. a header of 187 bytes: 1; form 0x2 with a good CRC: 14
  pub example12-short : (h : List ℕ) → length h ≡ 187 → header_refusal h ≡ 1
  pub example12-form : header_refusal (header_of (sample 0x47000000 2 0)) ≡ 14
  -- form 0x1: accepted
  pub accepted : header_refusal (header_of (sample 0x47000000 1 0)) ≡ 0
  -- reception state 11: 15; what does not fit its field is not written: 10
  pub state : header_refusal (header_of (sample 0x47000000 1 3)) ≡ 15
  pub state-wide : record_refusal (sample 0x47000000 1 4) ≡ 10
  pub form-wide : record_refusal (sample 0x47000000 16 0) ≡ 10
  -- several at once: the first
  pub packet-sync-first : header_refusal (header_of (sample 0x46000000 2 3)) ≡ 12
  pub form-first : header_refusal (header_of (sample 0x47000000 2 3)) ≡ 14
  -- the CRC
  pub crc : drop 184 (header_of (sample 0x47000000 1 0)) ≡ 0xE7 ∷ 0x60 ∷ 0xA5 ∷ 0x71 ∷ []
