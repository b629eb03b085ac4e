-- What this crate promises, in the words of demand 2 and of document 01. The record has one value, proved in proofs/Promises.antt. Assumes nothing.
use Rattle.std.specs.Prelude.{◌≡◌, false, ◌≢◌, List, [], ◌∷◌, ℕ, length, drop}
use Rattle.bits.specs.Bits.{bits, Bytes}
use Rattle.bits.specs.Refusal.{test_numbers}
use Rattle.crc.specs.Crc.{crc32_of}
use Rattle.header.specs.Fields.{Sized}
use Rattle.header.specs.Tests.{too_wide}
use Rattle.header.specs.Header.{header_tests, record_tests, header_refusal, header_read_of, header_of, Legal, record_refusal, write_number, write_of}
use Rattle.header.specs.declared.Header.{Header}

pub record Demand2 : Type 0 where
  -- a legal header, written and read, comes back the same
  pub comes_back : (r : Header) → Sized r → Legal r → header_read_of (header_of r) ≡ record { number = 0; header = r }
  -- a header whose fields fit is refused, once written, as its writer refuses it
  pub same-refusal : (r : Header) → Sized r → too_wide r ≡ false → header_refusal (header_of r) ≡ record_refusal r
  -- an accepted header, read and written, comes back byte for byte
  pub written-again : (h : List ℕ) → Bytes h → header_refusal h ≡ 0 → header_of (header_read_of h).header ≡ h
  -- what was read is legal
  pub read-legal : (h : List ℕ) → header_refusal h ≡ 0 → Legal (header_read_of h).header
  pub read-sized : (h : List ℕ) → Sized (header_read_of h).header
  -- two legal headers that write the same bytes are one
  pub written_apart : (r s : Header) → Sized r → Sized s → Legal r → Legal s → header_of r ≡ header_of s → r ≡ s
  -- a written header has 188 bytes, and its CRC comes out zero
  pub written-long : (r : Header) → length (header_of r) ≡ 188
  pub written-crc : (r : Header) → crc32_of (bits (drop 4 (header_of r))) ≡ 0
  -- the tests stand in document 01's order
  pub header-order : (h : List ℕ) → test_numbers (header_tests h) ≡ 1 ∷ 12 ∷ 13 ∷ 14 ∷ 15 ∷ []
  pub record-order : (r : Header) → test_numbers (record_tests r) ≡ 10 ∷ 12 ∷ 14 ∷ 15 ∷ []
  -- a legal header is written into a buffer of 188 bytes; at a refusal the buffer stays as it was
  pub legal-exactly : (r : Header) → write_number r 188 ≡ record_refusal r
  pub written : (r : Header) (s : List ℕ) → Legal r → length s ≡ 188 → write_of r s ≡ header_of r
  pub unchanged : (r : Header) (s : List ℕ) → write_number r (length s) ≢ 0 → write_of r s ≡ s
