-- A frame examined: what reading, judging and cleaning come from, so that a frame is repaired once. Assumes nothing.
use Rattle.std.specs.Prelude.{cond, List, ℕ, eqb, replicate}
use Rattle.bits.specs.Refusal.{first_refusal}
use Rattle.bits.specs.Field.{put_of}
use Rattle.dsc.specs.Marks.{Marking, repair_by}
use Rattle.dsc.specs.declared.Answer.{Answer}
use Rattle.dsc.specs.declared.Outcome.{Outcome}
use Rattle.dsc.specs.declared.Outcome.TheVariants as outcome
use Rattle.sync_pattern.specs.Pattern.{pattern_word}
use Rattle.frame.specs.Fields.{with_origin}
use Rattle.frame.specs.Read.{record_in, after_repair, refusal_by, read_by}
use Rattle.frame_reader.specs.declared.Examined.{Examined}
use Rattle.frame.specs.declared.Edition.{Edition}
use Rattle.frame.specs.declared.Tuner.{Tuner}
use Rattle.frame.specs.declared.Origin.{Origin}
use Rattle.frame.specs.declared.Record.{Record}
use Rattle.frame.specs.declared.Cleaned.{Cleaned}
use Rattle.frame.specs.declared.Reading.{Reading}
use Rattle.frame.specs.declared.Reading.TheVariants.{Accepted, Refused}

-- a refusal: its number, and no word
abbrev pub examined_refused : ℕ → Examined
examined_refused n = record { reading = Refused n; word = replicate 26 0 }

-- accepted: the record, the bits that differed from the pattern, the repaired frame
abbrev pub examined_accepted : Record → ℕ → List ℕ → Examined
examined_accepted r d c = record { reading = Accepted r d; word = c }

-- the repaired frame c examined; o is where it came from, and d how many bits of the received one differed from the pattern
unfoldable pub word_examined : Edition → Origin → (reference pattern differing : ℕ) → List ℕ → Examined
word_examined ed o x p d c =
    cond (eqb (first_refusal (after_repair ed c)) 0) (examined_accepted (with_origin o (record_in ed x p c)) d c) (examined_refused (first_refusal (after_repair ed c)))

-- the repair's answer examined, where the frame passed the tests before it: it has 26 bytes, so that a refusal is 4
unfoldable pub answer_examined : Edition → Tuner → (reference pattern differing : ℕ) → Answer → Examined
answer_examined ed t x p d a = examined a.outcome
  where
    examined : Outcome → Examined
    examined (outcome.Repaired n) = word_examined ed (record { tuner = t; repaired = n }) x p d a.word
    examined (outcome.Refused n) = examined_refused 4

-- any bytes examined, marked as q says: what is read, with the repaired frame beside it
unfoldable pub examined_by : Edition → Marking → Tuner → List ℕ → Examined
examined_by ed q t f = record { reading = read_by ed q t f; word = cond (eqb (refusal_by ed q f) 0) (repair_by q f).word (replicate 26 0) }

-- the frame with its damage repaired, of what was examined: the repaired frame with the reference and the pattern put into it
unfoldable pub cleaned_from : Examined → Cleaned
cleaned_from x = cleaned x.reading
  where
    cleaned : Reading → Cleaned
    cleaned (Accepted r d) = record { number = 0; frame = put_of (put_of x.word 0 1 r.reference) 1 16 (pattern_word r.pattern) }
    cleaned (Refused n) = record { number = n; frame = replicate 26 0 }
