-- Document 01's starred worked examples, 1 to 10, gathered under a single claim and stated of the written definitions, in the first edition. Assumes nothing.
use Rattle.std.specs.Prelude.{◌≡◌, List, [], ◌∷◌, ℕ, ◌≤◌, ◌<◌, length, replicate}
use Rattle.bits.specs.Bits.{bits_of}
use Rattle.gf2.specs.Polynomial.{zeros}
use Rattle.crc.specs.Crc.{crc10}
use Rattle.crc.specs.Examples.{covered}
use Rattle.dsc.specs.Code.{CodeWord, weight}
use Rattle.dsc.specs.Repair.{protected, word_bytes, repaired_to, refused_with, repair_of}
use Rattle.dsc.specs.Worked.{generator_word, first_places, SomePlaces}
use Rattle.frame.specs.Promises.{ComesBack}
use Rattle.frame.specs.Read.{read_of}
use Rattle.frame.specs.Write.{Legal, record_refusal, frame_of}
use Rattle.frame.specs.Worked.{AtLatitude, at_latitude}
use Rattle.frame.specs.declared.Edition.TheVariants.{First}
use Rattle.frame.specs.declared.Tuner.{Tuner}
use Rattle.frame.specs.declared.Record.{Record}
use Rattle.frame.specs.declared.Reading.TheVariants.{Refused}
use Rattle.follower.specs.Follow.{step_of}
use Rattle.follower.specs.Promises.{Informs, Some}
use Rattle.follower_events.specs.declared.Kind.{Kind}
use Rattle.follower_events.specs.declared.Kind.TheVariants.{Real, Test}
use Rattle.follower_events.specs.declared.Event.TheVariants.{Changed, Skipped}
use Rattle.follower.specs.declared.Follower.{Follower}

pub record Examples : Type 0 where
  -- 1. 187 zeros are a code word, 0 repaired
  pub example1 : CodeWord (zeros 187)
  pub example1-clean : (f : List ℕ) → length f ≡ 26 → protected f ≡ zeros 187 → repair_of f ≡ repaired_to (zeros 187) 0
  -- 2. the generator itself is a code word with 18 ones
  pub example2 : CodeWord generator_word
  pub example2-ones : weight generator_word ≡ 18
  -- 3. eight of its 18 places set, whichever: repaired to zeros, count 8; there are such frames, for this example and the next two
  pub example3 : (f : List ℕ) → SomePlaces 8 f → repair_of f ≡ repaired_to (zeros 187) 8
  pub example3-some : (n : ℕ) → n ≤ 18 → SomePlaces n (word_bytes (first_places n))
  -- 4. nine of them: refusal 4
  pub example4 : (f : List ℕ) → SomePlaces 9 f → repair_of f ≡ refused_with 4
  -- 5. ten of them: repaired to the generator, count 8
  pub example5 : (f : List ℕ) → SomePlaces 10 f → repair_of f ≡ repaired_to generator_word 8
  -- 6. CRC with only B111 set: 1000110011
  pub example6 : crc10 (covered (111 ∷ [])) ≡ bits_of 10 0b1000110011
  -- 7. CRC with only B110 set: 1001010101; with both: 0001100110
  pub example7-one : crc10 (covered (110 ∷ [])) ≡ bits_of 10 0b1001010101
  pub example7-both : crc10 (covered (110 ∷ 111 ∷ [])) ≡ bits_of 10 0b0001100110
  -- 8. latitude 900 accepted, 901 refused 9: by the writer, and by the reader, with any tuner told, of the frame that holds these fields; there are such
  -- records
  pub example8-written : (r : Record) → AtLatitude 900 r → Legal First r
  pub example8-read : (t : Tuner) (r : Record) → AtLatitude 900 r → ComesBack r t 0 0 (read_of First t (frame_of First r))
  pub example8-not-written : (r : Record) → AtLatitude 901 r → record_refusal First r ≡ 9
  pub example8-not-read : (t : Tuner) (r : Record) → AtLatitude 901 r → read_of First t (frame_of First r) ≡ Refused 9
  pub example8-some : (n : ℕ) → n < 1024 → AtLatitude n (at_latitude n)
  -- 9. update 3 then 0, same kind: "changed"; 0 then 3: "skipped"; there are such frames, of each kind that the first edition has
  pub example9-changed : (s : Follower) (f g : List ℕ) (k : Kind) → Informs First f k 3 → Informs First g k 0
      → (step_of First (step_of First s f).next g).event ≡ Changed
  pub example9-skipped : (s : Follower) (f g : List ℕ) (k : Kind) → Informs First f k 0 → Informs First g k 3
      → (step_of First (step_of First s f).next g).event ≡ Skipped
  pub example9-some : (u : ℕ) → u < 4 → Some First Real u × Some First Test u
  -- 10. 26 zero bytes: refusal 3
  pub example10 : (t : Tuner) → read_of First t (replicate 26 0) ≡ Refused 3
