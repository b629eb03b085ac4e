-- A frame for each refusal. Assumes nothing.
use mathlib.Core.Path.{◌≡◌, refl, ap, ◌∙◌}
use mathlib.Core.Bool.{Bool, true, false, not, ◌&&◌, and-eq-true_iff}
use mathlib.Core.List.{List, [], ◌∷◌, ◌++◌}
use Prim.Native.Nat.{ℕ, zero, suc, ◌+◌, ◌-◌, ◌≤◌, ◌<◌}
use native.Mathlib.Omega.{arith}
use lib.Dec.{eqb, ltb}
use lib.ListN.{length, replicate}
use borrow.Author.Tests.{ne_eqb, ltb-true, eqb-true, eqb-false}
use Rattle.bits.specs.Bits.{digit, odd, value, bits, bits_of, bytes, Bytes}
use Rattle.bits.specs.Field.{field_at}
use Rattle.bits.specs.Refusal.{first_refusal}
use Rattle.bits.specs.Layout.{unpack}
use Rattle.bits.specs.Segment.{fixed_hold, widths, free, free_widths}
use Rattle.bits.proofs.Computed.{all_below}
use Rattle.bits.proofs.Refusal.{refusal-here, refusal-append-given, refusal-append-none}
use Rattle.gf2.specs.Polynomial.{add, scale, remainder, poly, member}
use Rattle.crc.specs.Crc.{crc, crc10}
use Rattle.dsc.specs.Code.{powers, generator_low, all_zero, is_code_word}
use Rattle.dsc.specs.Repair.{protected, word_bytes, repaired_to, number_of, repair_of}
use Rattle.dsc.specs.Worked.{among, generator_word}
use Rattle.dsc.specs.Marks.{unmarked, repair_by}
use Rattle.dsc.specs.declared.Answer.{Answer}
use Rattle.dsc.proofs.Word.{tested-word}
use Rattle.dsc.proofs.Distance.{dist_same}
use Rattle.dsc.proofs.Answers.{length-protected, repair-found}
use Rattle.dsc.proofs.MarkedAnswers.{sized-whole}
use Rattle.dsc.proofs.Worked.{worked}
use Rattle.sync_pattern.specs.Pattern.{sync_number, differing_from, sync_of}
use Rattle.frame.specs.Identification.{class_of}
use Rattle.frame.specs.Body.{row, layout}
use Rattle.frame.specs.Fields.{record_of, record_from, scatter}
use Rattle.frame.specs.Read.{sync_in, before_repair, after_repair, refusal_by, places_by, judge_by, judge_of}
use Rattle.frame.specs.declared.Edition.{Edition}
use Rattle.frame.specs.declared.Edition.TheVariants.{First, AreaSafety}
use Rattle.frame.proofs.Readings.{repaired-refusal}
use Rattle.frame.proofs.Marks.{marked-frames}
use Rattle.frame_verdicts.specs.Promises.{JudgedAs, verdict_refused}
use Rattle.frame_verdicts.proofs.Tables.{nine_hits, unhit}

-- ---- bytes

bytes-row : (s : List ℕ) → all_below 256 s ≡ true → Bytes s
bytes-row [] e i = omega arith
bytes-row (b ∷ s) e zero = ltb-true b 256 ((and-eq-true_iff (ltb b 256) (all_below 256 s)).0 e).0
bytes-row (b ∷ s) e (suc i) = bytes-row s ((and-eq-true_iff (ltb b 256) (all_below 256 s)).0 e).1 i

-- ---- a refused frame's verdict

module _ (ed : Edition) (f : List ℕ) where
  pub verdict-refused : (n : ℕ) → 0 < n → refusal_by ed unmarked f ≡ n → judge_of ed f ≡ verdict_refused n
  unfolding judge_by places_by
  verdict-refused n h e = rw (e, ne_eqb n 0 (λ z. omega arith))

  refused_as : (n : ℕ) → 0 < n → all_below 256 f ≡ true → refusal_by ed unmarked f ≡ n → JudgedAs ed (verdict_refused n)
  refused_as n h t e = record { frame = f; all-bytes = bytes-row f t; judged = verdict-refused n h e }

-- ---- before the repair

module _ (ed : Edition) where
  first : JudgedAs ed (verdict_refused 1)
  first = refused_as ed [] 1 (omega arith) refl ((marked-frames ed).short-frame unmarked [] (λ e. omega arith))

  -- as the tests before the repair say
  before : (f : List ℕ) (n : ℕ) → 0 < n → all_below 256 f ≡ true → first_refusal (before_repair unmarked f) ≡ n → JudgedAs ed (verdict_refused n)
  unfolding refusal_by
  before f n h t e =
      refused_as ed f n h t
      (refusal-append-given (before_repair unmarked f) ((4, not (eqb (number_of (repair_by unmarked f)) 0)) ∷ after_repair ed (repair_by unmarked f).word) n h e)

  second : JudgedAs ed (verdict_refused 2)
  unfolding first_refusal sync_of differing_from add bits bits_of odd value digit
  second = before (replicate 25 0 ++ 1 ∷ []) 2 (omega arith) refl refl

  third : JudgedAs ed (verdict_refused 3)
  unfolding first_refusal sync_of differing_from add bits bits_of odd value digit
  third = before (replicate 26 0) 3 (omega arith) refl refl

  -- ---- beyond repair

  -- nine of the generator's places are hit
  fourth : JudgedAs ed (verdict_refused 4)
  unfolding refusal_by nine_hits sync_of differing_from add bits bits_of odd value digit protected among generator_word poly powers member
  fourth = refused_as ed nine_hits 4 (omega arith) refl (refusal-append-none (before_repair unmarked nine_hits) _ (refl, (refl, (refl, tt))) ∙ refusal-here 4 _ beyond)
    where
      beyond : not (eqb (number_of (repair_by unmarked nine_hits)) 0) ≡ true
      beyond = ap (λ (a : Answer). not (eqb (number_of a) 0)) (worked.example4 nine_hits (record { size = refl; places = refl; number = refl }))

-- ---- after the repair

-- a code word without a hit, with pattern 0, that is refused so by its word
right_row : Edition → ℕ → List ℕ → Bool
right_row ed n f =
    all_below 256 f
    && (eqb (length f) 26
    && (eqb (field_at f 204 4) 0
    && (eqb (sync_number (sync_in f)) 0
    && (is_code_word (protected f) && eqb (first_refusal (after_repair ed (word_bytes (protected f)))) n))))

right_rows : Edition → ℕ → List (List ℕ) → Bool
right_rows ed n [] = true
right_rows ed n (f ∷ fs) = right_row ed n f && right_rows ed (suc n) fs

-- the one computed test
right-unhit : (ed : Edition) → right_rows ed 5 unhit ≡ true
unfolding right_rows right_row unhit first_refusal is_code_word all_zero remainder add scale sync_of differing_from protected word_bytes bytes bits bits_of odd value digit class_of row layout scatter generator_low poly powers member crc10 crc fixed_hold unpack widths record_of record_from free free_widths
right-unhit First = refl
right-unhit AreaSafety = refl

row-judged : (ed : Edition) (n : ℕ) (f : List ℕ) → 0 < n → right_row ed n f ≡ true → JudgedAs ed (verdict_refused n)
unfolding right_row
row-judged ed n f h e =
    let w = protected f in
    let a = (and-eq-true_iff (all_below 256 f) _).0 e in
    let b = (and-eq-true_iff (eqb (length f) 26) _).0 a.1 in
    let c = (and-eq-true_iff (eqb (field_at f 204 4) 0) _).0 b.1 in
    let d = (and-eq-true_iff (eqb (sync_number (sync_in f)) 0) _).0 c.1 in
    let g = (and-eq-true_iff (is_code_word w) (eqb (first_refusal (after_repair ed (word_bytes w))) n)).0 d.1 in
    let size = eqb-true (length f) 26 b.0 in
    let own : repair_of f ≡ repaired_to w 0 =
    repair-found f size w (tested-word w (length-protected f size) g.0) (omega (arith, dist_same w)) ∙ ap (repaired_to w) (dist_same w) in
    refused_as ed f n h a.0
    (repaired-refusal ed unmarked f w 0 (sized-whole unmarked f size tt) (eqb-true (field_at f 204 4) 0 c.0) (eqb-true (sync_number (sync_in f)) 0 d.0) own
    ∙ eqb-true (first_refusal (after_repair ed (word_bytes w))) n g.1)

-- one for each of the numbers from n on
AllFrom : Edition → ℕ → ℕ → Type 0
AllFrom ed n zero = Unit {0}
AllFrom ed n (suc k) = JudgedAs ed (verdict_refused n) × AllFrom ed (suc n) k

rows-judged : (ed : Edition) (n : ℕ) (fs : List (List ℕ)) → 0 < n → right_rows ed n fs ≡ true → AllFrom ed n (length fs)
unfolding right_rows AllFrom
rows-judged ed n [] h e = tt
rows-judged ed n (f ∷ fs) h e =
    let a = (and-eq-true_iff (right_row ed n f) (right_rows ed (suc n) fs)).0 e in
    (row-judged ed n f h a.0, rows-judged ed (suc n) fs (omega arith) a.1)

nine : (ed : Edition) → AllFrom ed 1 9
unfolding AllFrom unhit
nine ed = (first ed, (second ed, (third ed, (fourth ed, rows-judged ed 5 unhit (omega arith) (right-unhit ed)))))

one_of : (ed : Edition) (n k m : ℕ) → AllFrom ed n k → n ≤ m → m < n + k → JudgedAs ed (verdict_refused m)
unfolding AllFrom
one_of ed n zero m a l h = absurd (omega arith)
one_of ed n (suc k) m (j, a) l h = go (eqb m n) refl (one_of ed (suc n) k m a)
  where
    go : (t : Bool) → eqb m n ≡ t → (suc n ≤ m → m < suc n + k → JudgedAs ed (verdict_refused m)) → JudgedAs ed (verdict_refused m)
    go true e others = rw (eqb-true m n e) j
    go false e others = let apart = eqb-false m n e in others (omega arith) (omega arith)

pub refused-some : (ed : Edition) (n : ℕ) → 0 < n → n ≤ 9 → JudgedAs ed (verdict_refused n)
refused-some ed n h l = one_of ed 1 9 n (nine ed) h (omega arith)
