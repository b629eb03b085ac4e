-- What this crate promises, in the words of documents 01 and 02, j). The record has one value for every edition, proved in proofs/Promises.antt. Assumes
-- nothing.
use Rattle.std.specs.Prelude.{◌≡◌, ◌≢◌, List, [], ◌∷◌, ℕ}
use Rattle.frame.specs.Fields.{with_origin}
use Rattle.frame.specs.Read.{read_of, reading_fields}
use Rattle.frame.specs.Write.{Legal, frame_of}
use Rattle.frame.specs.declared.Edition.{Edition}
use Rattle.frame.specs.declared.Tuner.TheVariants.{None, Main, Spare}
use Rattle.frame.specs.declared.Record.{Record}
use Rattle.frame.specs.declared.Reading.TheVariants as reading
use Rattle.capture.specs.Capture.{part_at, number_at, source_of, frame_at}
use Rattle.capture_reader.specs.CaptureRead.{capture_read_of, capture_refusals, capture_fields}
use Rattle.capture_reader.specs.declared.CaptureReading.TheVariants.{Accepted}

pub record CaptureReads (ed : Edition) : Type 0 where
  -- the main one if accepted there: what the reader says of its bytes, told main
  pub main-first : (main spare : List ℕ) (n : ℕ) (r : Record) (d : ℕ) → read_of ed Main (part_at main n) ≡ reading.Accepted r d → capture_read_of ed main spare n ≡ Accepted r d
  -- otherwise the spare one if accepted there, told spare
  pub spare-otherwise : (main spare : List ℕ) (n : ℕ) (r : Record) (d : ℕ) → number_at ed main n ≢ 0 → read_of ed Spare (part_at spare n) ≡ reading.Accepted r d
      → capture_read_of ed main spare n ≡ Accepted r d
  -- neither: both numbers, main first
  pub neither : (main spare : List ℕ) (n : ℕ) → number_at ed main n ≢ 0 → number_at ed spare n ≢ 0
      → capture_refusals (capture_read_of ed main spare n) ≡ number_at ed main n ∷ number_at ed spare n ∷ []
  -- a record is that of the frame's own bytes; its tuner is the one that they were taken from, main or spare
  pub accepted-only : (main spare : List ℕ) (n : ℕ) (r : Record) (d : ℕ) → capture_read_of ed main spare n ≡ Accepted r d
      → (r.origin.tuner ≡ source_of ed main spare n) × ((r.origin.tuner ≢ None) × (read_of ed r.origin.tuner (frame_at ed main spare n) ≡ reading.Accepted r d))
  -- numbers are told only where both are refusals
  pub refused-only : (main spare : List ℕ) (n : ℕ) → capture_refusals (capture_read_of ed main spare n) ≢ [] → (number_at ed main n ≢ 0) × (number_at ed spare n ≢ 0)
  -- the fields that are told are those that the reader tells of the frame's own bytes
  pub fields_told : (main spare : List ℕ) (n : ℕ)
      → capture_fields (capture_read_of ed main spare n) ≡ reading_fields (read_of ed (source_of ed main spare n) (frame_at ed main spare n))
  -- a legal record's frame in the main capture, or in the spare one alone, is that record again, with that tuner and no repaired place
  pub main_some : (r : Record) (spare : List ℕ) → Legal ed r
      → capture_read_of ed (frame_of ed r) spare 0 ≡ Accepted (with_origin (record { tuner = Main; repaired = 0 }) r) 0
  pub spare-some : (r : Record) → Legal ed r → capture_read_of ed [] (frame_of ed r) 0 ≡ Accepted (with_origin (record { tuner = Spare; repaired = 0 }) r) 0
