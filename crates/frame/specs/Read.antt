-- Judging and reading a frame (document 01, "When the box says no"; document 02, a), e), j) and d), by the edition named. A frame may come with doubtful marks:
-- then the repair with marks stands in the place of demand 3's, and the rest is the same. Assumes nothing.
use Rattle.std.specs.Prelude.{Bool, cond, not, List, [], ◌∷◌, ◌++◌, ℕ, eqb, length, take, drop, replicate, Option}
use Rattle.bits.specs.Bits.{bits, bytes, bits_of}
use Rattle.gf2.specs.Polynomial.{zeros}
use Rattle.bits.specs.Field.{field_at}
use Rattle.bits.specs.Segment.{unpack_segments, fixed_bits_hold}
use Rattle.bits.specs.Refusal.{first_refusal}
use Rattle.crc.specs.Crc.{crc10_of}
use Rattle.dsc.specs.Repair.{protected, number_of, places_of}
use Rattle.dsc.specs.Marks.{Marking, unmarked, whole, repair_by}
use Rattle.sync_pattern.specs.Pattern.{pattern_bits, sync_of, sync_number, fitting_pattern, fitting_differing}
use Rattle.sync_pattern.specs.declared.Fit.{Fit}
use Rattle.frame.specs.Identification.{class_of, flags_wrong, is_undefined}
use Rattle.frame.specs.Body.{body_of, layout}
use Rattle.frame.specs.Fields.{fields, with_origin, over_limit, record_of}
use Rattle.frame.specs.declared.Edition.{Edition}
use Rattle.frame.specs.declared.Class.{Class}
use Rattle.frame.specs.declared.Body.{Body}
use Rattle.frame.specs.declared.Record.{Record}
use Rattle.frame.specs.declared.Tuner.{Tuner}
use Rattle.frame.specs.declared.Tuner.TheVariants.{None}
use Rattle.frame.specs.declared.Origin.{Origin}
use Rattle.frame.specs.declared.Verdict.{Verdict}
use Rattle.frame.specs.declared.Cleaned.{Cleaned}
use Rattle.frame.specs.declared.Reading.{Reading}
use Rattle.frame.specs.declared.Reading.TheVariants.{Accepted, Refused}

-- ---- the repaired frame c: 26 bytes that hold the repaired word at B17 to B203

abbrev pub identification_in : List ℕ → ℕ
identification_in c = field_at c 21 3

abbrev pub class_in : Edition → List ℕ → Class
class_in ed c = class_of ed (identification_in c)

abbrev pub body_in : Edition → List ℕ → Body
body_in ed c = body_of (class_in ed c) (field_at c 55 1) (field_at c 67 1)

-- B24 to B111
abbrev pub details_in : List ℕ → List Bool
details_in c = take 88 (drop 24 (bits c))

-- the values of the body's fields
abbrev pub values_in : Edition → List ℕ → List ℕ
values_in ed c = unpack_segments (layout (body_in ed c)) (details_in c)

-- the record, with the reference and the pattern, which the code does not protect
abbrev pub record_in : Edition → (reference pattern : ℕ) → List ℕ → Record
record_in ed b p c = record_of (body_in ed c) b p (identification_in c) (field_at c 19 2) (values_in ed c)

-- ---- the synchronising bits

-- B1 to B16
abbrev pub sync_bits : List ℕ → List Bool
sync_bits f = take 16 (drop 1 (bits f))

-- the pattern that they fit, and in how many of them they differ from it, or neither
abbrev pub sync_in : List ℕ → Option Fit
sync_in f = sync_of (sync_bits f)

-- ---- the tests, in order

-- before the repair: the size of the frame, and of its marks where it comes with marks, the filler, the pattern
abbrev pub before_repair : Marking → List ℕ → List (ℕ × Bool)
before_repair q f =
    (1, not (whole q f))
    ∷ (2, not (eqb (field_at f 204 4) 0))
    ∷ (3, not (eqb (sync_number (sync_in f)) 0))
    ∷ []

-- after it: the CRC, the identification, start/end and update, the bits fixed at 1, the house limits
abbrev pub after_repair : Edition → List ℕ → List (ℕ × Bool)
after_repair ed c =
    (5, not (eqb (field_at c 112 10) (crc10_of (take 91 (drop 21 (bits c))))))
    ∷ (6, is_undefined (class_in ed c))
    ∷ (7, flags_wrong (class_in ed c) (field_at c 17 2) (field_at c 19 2))
    ∷ (8, not (fixed_bits_hold (layout (body_in ed c)) (details_in c)))
    ∷ (9, over_limit (body_in ed c) (record_in ed 0 0 c).latitude (record_in ed 0 0 c).longitude)
    ∷ []

-- 1 to 9: the repair gives 4 or nothing, since the frame has 26 bytes by then
abbrev pub frame_tests : Edition → Marking → List ℕ → List (ℕ × Bool)
frame_tests ed q f = before_repair q f ++ (4, not (eqb (number_of (repair_by q f)) 0)) ∷ after_repair ed (repair_by q f).word

unfoldable pub refusal_by : Edition → Marking → List ℕ → ℕ
refusal_by ed q f = first_refusal (frame_tests ed q f)

-- the number of repaired places of an accepted frame, 0 of another
unfoldable pub places_by : Edition → Marking → List ℕ → ℕ
places_by ed q f = cond (eqb (refusal_by ed q f) 0) (places_of (repair_by q f)) 0

-- where the record of an accepted frame came from: the tuner t that the reader is told, and the number of repaired places
abbrev pub origin_in : Edition → Marking → Tuner → List ℕ → Origin
origin_in ed q t f = record { tuner = t; repaired = places_by ed q f }

-- what an accepted frame says: reference and pattern as they were received, all else by the repaired word
abbrev pub contents_in : Edition → Marking → List ℕ → Record
contents_in ed q f = record_in ed (field_at f 0 1) (fitting_pattern (sync_in f)) (repair_by q f).word

-- what judging answers
unfoldable pub judge_by : Edition → Marking → List ℕ → Verdict
judge_by ed q f = record { number = refusal_by ed q f; repaired = places_by ed q f }

-- what reading answers, told the tuner t: what the frame says and where it came from, and beside that the bits that differed from the pattern
unfoldable pub read_by : Edition → Marking → Tuner → List ℕ → Reading
read_by ed q t f =
    cond (eqb (refusal_by ed q f) 0)
    (Accepted (with_origin (origin_in ed q t f) (contents_in ed q f)) (fitting_differing (sync_in f)))
    (Refused (refusal_by ed q f))

-- the documents' number and values of a reading: 0 with the record's fields, its tuner and its repaired places, and with the differing bits; or the
-- refusal's number and nothing else
abbrev pub reading_number : Reading → ℕ
reading_number (Accepted r d) = 0
reading_number (Refused n) = n

abbrev pub reading_places : Reading → ℕ
reading_places (Accepted r d) = r.origin.repaired
reading_places (Refused n) = 0

abbrev pub reading_tuner : Reading → Tuner
reading_tuner (Accepted r d) = r.origin.tuner
reading_tuner (Refused n) = None

abbrev pub reading_differing : Reading → ℕ
reading_differing (Accepted r d) = d
reading_differing (Refused n) = 0

abbrev pub reading_fields : Reading → List ℕ
reading_fields (Accepted r d) = fields r
reading_fields (Refused n) = []

-- what judging says of it
abbrev pub reading_verdict : Reading → Verdict
reading_verdict a = record { number = reading_number a; repaired = reading_places a }

-- ---- the frame with its damage repaired: its reference, the pattern's own bits, the repaired word, the filler

unfoldable pub clean_by : Marking → List ℕ → List ℕ
clean_by q f =
    bytes 26
    (bits_of 1 (field_at f 0 1) ++ (pattern_bits (fitting_pattern (sync_in f)) ++ (protected (repair_by q f).word ++ zeros 4)))

-- what cleaning answers: the refusal's number, and the frame with its damage repaired, or 26 zeros where it is refused
unfoldable pub cleaned_by : Edition → Marking → List ℕ → Cleaned
cleaned_by ed q f = record { number = refusal_by ed q f; frame = cond (eqb (refusal_by ed q f) 0) (clean_by q f) (replicate 26 0) }

-- ---- the same of a frame without marks, as document 01 has it

abbrev pub frame_refusal : Edition → List ℕ → ℕ
frame_refusal ed f = refusal_by ed unmarked f

abbrev pub places_in : Edition → List ℕ → ℕ
places_in ed f = places_by ed unmarked f

abbrev pub judge_of : Edition → List ℕ → Verdict
judge_of ed f = judge_by ed unmarked f

abbrev pub read_of : Edition → Tuner → List ℕ → Reading
read_of ed t f = read_by ed unmarked t f

abbrev pub clean_of : List ℕ → List ℕ
clean_of f = clean_by unmarked f

abbrev pub cleaned_of : Edition → List ℕ → Cleaned
cleaned_of ed f = cleaned_by ed unmarked f
