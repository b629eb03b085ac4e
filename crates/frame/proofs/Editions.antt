-- What the editions differ in and what they share. Assumes nothing.
use mathlib.Core.Path.{◌≡◌, refl, sym, ap, ◌∙◌}
use mathlib.Core.Bool.{Bool, true, false, true≢false, cond}
use mathlib.Core.Logic.{◌≢◌, ◌⊎◌, inl, inr}
use mathlib.Core.List.{List, [], ◌∷◌, ◌++◌, append_assoc}
use Prim.Native.Nat.{ℕ, ◌≤◌}
use native.Mathlib.Omega.{arith}
use lib.Dec.{eqb}
use lib.ListN.{take, drop}
use borrow.Author.Tests.{eqb-true, eqb-false, ne_eqb}
use Rattle.bits.specs.Bits.{value}
use Rattle.bits.specs.Field.{field_at}
use Rattle.bits.specs.Refusal.{first_refusal}
use Rattle.bits.proofs.Bits.{value-bits_of-fit}
use Rattle.bits.proofs.Refusal.{refusal-here, refusal-none, refusal-append-given, refusal-append-none, refusal-most}
use Rattle.dsc.specs.Marks.{Marking, repair_by}
use Rattle.frame.specs.Identification.{class_of, start_end_of, update_of, is_undefined}
use Rattle.frame.specs.Fields.{record_body}
use Rattle.frame.specs.Read.{identification_in, class_in, frame_tests, refusal_by, places_by, judge_by, read_by, clean_by, cleaned_by}
use Rattle.frame.specs.Write.{announced, message_bits, record_refusal, frame_of, write_number, write_of}
use Rattle.frame.specs.Promises.{NotSafety, FrameAlike, RecordAlike, Editions}
use Rattle.frame.specs.declared.Edition.{Edition}
use Rattle.frame.specs.declared.Edition.TheVariants.{First}
use Rattle.frame.specs.declared.Class.TheVariants.{Undefined}
use Rattle.frame.specs.declared.Tuner.{Tuner}
use Rattle.frame.specs.declared.Record.{Record}
use Rattle.frame.specs.declared.Reading.TheVariants.{Accepted}
use Rattle.frame.proofs.Identifications.{class-alike, beyond, safety-class, table-start-end, table-update}
use Rattle.frame.proofs.Bodies.{chosen, legal-sound, own-update}
use Rattle.frame.proofs.Frames.{start-lt, update-lt, length-frame, parts-frame, own-parts}
use Rattle.frame.proofs.Promises.{demand2}

-- ---- what the editions share: an answer looks at the edition for the class alone

module _ (ed other : Edition) (q : Marking) (f : List ℕ) (n : NotSafety (identification_in (repair_by q f).word)) where
  same_class : class_of ed (identification_in (repair_by q f).word) ≡ class_of other (identification_in (repair_by q f).word)
  same_class = class-alike ed other (identification_in (repair_by q f).word) n

  refusal-alike : refusal_by ed q f ≡ refusal_by other q f
  unfolding refusal_by
  refusal-alike = rw same_class

  frame-alike : FrameAlike ed other q f
  unfolding read_by judge_by cleaned_by places_by
  frame-alike = record { read = λ t. rw (refusal-alike, same_class); judged = rw refusal-alike; cleaned = rw refusal-alike }

module _ (ed other : Edition) (r : Record) (n : NotSafety r.identification) where
  record-refusal-alike : record_refusal ed r ≡ record_refusal other r
  unfolding record_refusal
  record-refusal-alike = rw (class-alike ed other r.identification n)

  written-alike : frame_of ed r ≡ frame_of other r
  unfolding frame_of message_bits announced
  written-alike = rw (class-alike ed other r.identification n)

  record-alike : RecordAlike ed other r
  unfolding write_number write_of
  record-alike =
      record { refusal = record-refusal-alike; number = λ m. rw record-refusal-alike; written = λ s. rw (record-refusal-alike, written-alike) }

-- ---- what an edition does not have

unwritten : (ed : Edition) (r : Record) → class_of ed r.identification ≡ Undefined → record_refusal ed r ≡ 6
unfolding record_refusal
unwritten ed r e = refusal-here 6 _ (ap is_undefined e)

-- the tests before 6, which look at no edition
earlier : Marking → List ℕ → List (ℕ × Bool)
earlier q f = take 5 (frame_tests First q f)

-- and those after it
later : Edition → Marking → List ℕ → List (ℕ × Bool)
later ed q f = drop 6 (frame_tests ed q f)

by-six : (ed : Edition) (q : Marking) (f : List ℕ) → refusal_by ed q f ≡ first_refusal (earlier q f ++ (6, is_undefined (class_in ed (repair_by q f).word)) ∷ later ed q f)
unfolding refusal_by earlier later
by-six ed q f = refl

module _ (ed : Edition) (q : Marking) (f : List ℕ) (e : class_in ed (repair_by q f).word ≡ Undefined) where
  -- the table up to 6
  six : List (ℕ × Bool)
  six = earlier q f ++ (6, true) ∷ []

  six-some : first_refusal six ≢ 0
  unfolding six earlier
  six-some z = true≢false (refusal-none six refl z).1.1.1.1.1.0

  until-six : refusal_by ed q f ≡ first_refusal six
  unfolding six
  until-six =
      let given : List (ℕ × Bool) = earlier q f ++ (6, true) ∷ [] in
      by-six ed q f
      ∙ ap (λ (t : Bool). first_refusal (earlier q f ++ (6, t) ∷ later ed q f)) (ap is_undefined e)
      ∙ ap first_refusal (sym (append_assoc (earlier q f) ((6, true) ∷ []) (later ed q f)))
      ∙ refusal-append-given given (later ed q f) (first_refusal given) (omega (arith, six-some)) refl

  unread : (refusal_by ed q f ≢ 0) × (refusal_by ed q f ≤ 6)
  unfolding six earlier
  unread = (λ z. six-some (sym until-six ∙ z), omega (arith, until-six, refusal-most 6 six refl))

-- a frame that two editions refuse with one number is answered alike
refused-alike : (ed other : Edition) (q : Marking) (f : List ℕ) (n : ℕ) → n ≢ 0 → refusal_by ed q f ≡ n → refusal_by other q f ≡ n → FrameAlike ed other q f
unfolding read_by judge_by cleaned_by places_by
refused-alike ed other q f n z a b = record { read = λ t. rw (a, b, ne_eqb n 0 z); judged = rw (a, b, ne_eqb n 0 z); cleaned = rw (a, b, ne_eqb n 0 z) }

first_frame : (other : Edition) (q : Marking) (f : List ℕ) → refusal_by First q f ≢ 6 → FrameAlike First other q f
unfolding earlier
first_frame other q f h = go (eqb i 5) (eqb i 6) refl refl
  where
    i : ℕ
    i = identification_in (repair_by q f).word

    -- 5 or 6: a test before 6 is met
    before : (i ≡ 5) ⊎ (i ≡ 6) → (t : Bool) → eqb (first_refusal (earlier q f)) 0 ≡ t → FrameAlike First other q f
    before s true y =
        let none = refusal-none (earlier q f) refl (eqb-true (first_refusal (earlier q f)) 0 y) in
        absurd
        (h
        (by-six First q f ∙ refusal-append-none (earlier q f) _ none ∙ refusal-here 6 _ (ap is_undefined (safety-class i s).0)))
    before s false y =
        let n = first_refusal (earlier q f) in
        let z : n ≢ 0 = eqb-false n 0 y in
        refused-alike First other q f n z (by-six First q f ∙ refusal-append-given (earlier q f) _ n (omega (arith, z)) refl)
        (by-six other q f ∙ refusal-append-given (earlier q f) _ n (omega (arith, z)) refl)

    go : (s t : Bool) → eqb i 5 ≡ s → eqb i 6 ≡ t → FrameAlike First other q f
    go true t a b = before (inl (eqb-true i 5 a)) (eqb (first_refusal (earlier q f)) 0) refl
    go false true a b = before (inr (eqb-true i 6 b)) (eqb (first_refusal (earlier q f)) 0) refl
    go false false a b = frame-alike First other q f (eqb-false i 5 a, eqb-false i 6 b)

first-record : (other : Edition) (r : Record) → record_refusal First r ≢ 6 → RecordAlike First other r
first-record other r h =
    let other-than : (r.identification ≡ 5) ⊎ (r.identification ≡ 6) → ⊥ = λ s. h (unwritten First r (safety-class r.identification s).0) in
    record-alike First other r ((λ z. other-than (inl z)), (λ z. other-than (inr z)))

-- ---- start/end and update of an accepted frame

module _ (ed : Edition) (q : Marking) (t : Tuner) (f : List ℕ) (r : Record) (d : ℕ) (e : read_by ed q t f ≡ Accepted r d) where
  read-start-end : field_at (clean_by q f) 17 2 ≡ cond (eqb r.identification 7) 3 0
  read-start-end =
      let c = class_of ed r.identification in
      ap (λ (g : List ℕ). field_at g 17 2) (sym ((demand2 ed).written-again q t f r d e))
      ∙ ap value (own-parts ed r (frame_of ed r) (length-frame ed r) (parts-frame ed r).word).start
      ∙ value-bits_of-fit 2 (start_end_of c) (start-lt c)
      ∙ table-start-end ed r.identification

  read-update : field_at (clean_by q f) 19 2 ≡ cond (eqb r.identification 7) 3 r.update
  read-update =
      let c = class_of ed r.identification in
      let b = record_body ed r in
      let sound = legal-sound ed r ((demand2 ed).read-legal q t f r d e) in
      ap (λ (g : List ℕ). field_at g 19 2) (sym ((demand2 ed).written-again q t f r d e))
      ∙ ap value (own-parts ed r (frame_of ed r) (length-frame ed r) (parts-frame ed r).word).update
      ∙ value-bits_of-fit 2 (update_of c r.update) (update-lt b r (chosen c r.page r.kind) (own-update b r sound.fit))
      ∙ table-update ed r.identification r.update

pub editions : Editions
unfolding class_of
editions =
    record {
      first = refl;
      area-safety = refl;
      beyond = beyond;
      unwritten = unwritten;
      unread = unread;
      frame-alike = frame-alike;
      record-alike = record-alike;
      first_frame = first_frame;
      first-record = first-record;
      start-end = read-start-end;
      update = read-update;
    }
