-- Frames that come with marks: sizes, and what does not matter. Assumes nothing.
use mathlib.Core.Path.{◌≡◌, refl, sym, ap, ap₂, ◌∙◌}
use mathlib.Core.Bool.{Bool, true, false, true≢false, not, ◌&&◌}
use mathlib.Core.Logic.{◌≢◌}
use mathlib.Core.List.{List, [], ◌∷◌, ◌++◌}
use Prim.Native.Nat.{ℕ}
use native.Mathlib.Omega.{arith}
use lib.Dec.{eqb}
use lib.ListN.{length, take}
use borrow.Author.Tests.{not-true}
use Rattle.bits.specs.Bits.{value}
use Rattle.bits.specs.Field.{field_at}
use Rattle.bits.proofs.Refusal.{refusal-here, refusal-met}
use Rattle.gf2.specs.Polynomial.{zeros}
use Rattle.dsc.specs.Repair.{protected, number_of}
use Rattle.dsc.specs.Marks.{unmarked_in, Marking, unmarked, marked, whole, repair_by, MarksSized}
use Rattle.dsc.specs.declared.Answer.{Answer}
use Rattle.dsc.proofs.MarkedAnswers.{whole-frame, marked-whole, marks-short, sized-whole}
use Rattle.dsc.proofs.DoubtfulMarks.{doubtful-marks}
use Rattle.sync_pattern.specs.Pattern.{sync_of, sync_number}
use Rattle.frame.specs.Read.{sync_bits, sync_in, after_repair, refusal_by, places_by, judge_by, read_by, clean_by, cleaned_by}
use Rattle.frame.specs.Promises.{SameOutside, SameAnswers, MarkedReading}
use Rattle.frame.specs.declared.Edition.{Edition}

-- a marking under which a frame is not whole gives refusal 1
pub refused-size : (ed : Edition) (q : Marking) (f : List ℕ) → whole q f ≡ false → refusal_by ed q f ≡ 1
unfolding refusal_by
refused-size ed q f e = refusal-here 1 _ (ap not e)

size-only : (ed : Edition) (q : Marking) (f : List ℕ) → whole q f ≡ true → refusal_by ed q f ≢ 1
unfolding refusal_by
size-only ed q f e z =
    let later : List (ℕ × Bool) =
    (2, not (eqb (field_at f 204 4) 0)) ∷ (3, not (eqb (sync_number (sync_in f)) 0)) ∷ (4, not (eqb (number_of (repair_by q f)) 0)) ∷ after_repair ed (repair_by q f).word in
    let given : not (whole q f) ≡ true = refusal-met [] later 1 (not (whole q f)) (omega arith) refl refl z in
    true≢false (sym e ∙ not-true (whole q f) given)

not-whole : (q : Marking) (f : List ℕ) → length f ≢ 26 → whole q f ≡ false
not-whole q f n = go (whole q f) refl
  where
    go : (t : Bool) → whole q f ≡ t → t ≡ false
    go true e = absurd (n (whole-frame q f e))
    go false e = refl

-- the answers look at the frame and its marks by way of the sizes, the filler, the synchronising bits, the reference and the repair alone
same-answers : (ed : Edition) (q p : Marking) (f g : List ℕ) → whole q f ≡ whole p g → field_at f 204 4 ≡ field_at g 204 4 → sync_in f ≡ sync_in g
    → field_at f 0 1 ≡ field_at g 0 1 → repair_by q f ≡ repair_by p g → SameAnswers ed q f ed p g
unfolding refusal_by places_by judge_by read_by clean_by cleaned_by
same-answers ed q p f g w filler sync reference e =
    record { read = λ t. rw (w, filler, sync, reference, e); judged = rw (w, filler, sync, e); cleaned = rw (w, filler, sync, reference, e) }

no-marks : (ed : Edition) (m f : List ℕ) → length m ≡ 26 → protected m ≡ zeros 187 → SameAnswers ed (marked m) f ed unmarked f
no-marks ed m f h e = same-answers ed (marked m) unmarked f f (marked-whole m f h) refl refl refl (doubtful-marks.no-marks f m h e)

marks-outside : (ed : Edition) (m n f : List ℕ) → length m ≡ length n → protected m ≡ protected n → SameAnswers ed (marked m) f ed (marked n) f
marks-outside ed m n f l e =
    same-answers ed (marked m) (marked n) f f (ap (λ (k : ℕ). eqb (length f) 26 && eqb k 26) l) refl refl refl (doubtful-marks.marks-outside f m n l e)

under-marks : (ed : Edition) (m f g : List ℕ) → length f ≡ length g → SameOutside f g → sync_bits f ≡ sync_bits g
    → unmarked_in (protected m) (protected f) ≡ unmarked_in (protected m) (protected g) → SameAnswers ed (marked m) f ed (marked m) g
under-marks ed m f g l o y e =
    same-answers ed (marked m) (marked m) f g (ap (λ (k : ℕ). eqb k 26 && eqb (length m) 26) l) (ap (λ (b : List Bool). value (take 4 b)) o.filler) (ap sync_of y)
    (ap value o.reference) (doubtful-marks.under-marks f g m l e)

pub marked-frames : (ed : Edition) → MarkedReading ed
marked-frames ed =
    record {
      short-marks = λ m f n. refused-size ed (marked m) f (marks-short m f n);
      short-frame = λ q f n. refused-size ed q f (not-whole q f n);
      sized = λ q f h m. size-only ed q f (sized-whole q f h m);
      no-marks = no-marks ed;
      marks-outside = marks-outside ed;
      under-marks = under-marks ed;
    }
