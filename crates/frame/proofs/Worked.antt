-- The worked examples of the frame hold. Assumes nothing.
use mathlib.Core.Path.{◌≡◌, refl, ap, ap₂, ◌∙◌, subst}
use mathlib.Core.Bool.{Bool, true, false, not, ◌||◌}
use mathlib.Core.Logic.{◌≢◌}
use mathlib.Core.List.{List, [], ◌∷◌}
use Prim.Native.Nat.{ℕ, ◌<◌}
use native.Mathlib.Omega.{arith}
use lib.Dec.{eqb, ltb, T}
use lib.ListN.{replicate}
use borrow.Author.Tests.{lt-ltb, le-ltb, not-false, ne_eqb}
use Rattle.bits.specs.Bits.{digit, odd, value, bits_of, bits}
use Rattle.bits.specs.Layout.{Fit, fitb}
use Rattle.bits.specs.Segment.{free_widths}
use Rattle.bits.specs.Refusal.{first_refusal}
use Rattle.bits.proofs.Computed.{below, below_at, T_not}
use Rattle.bits.proofs.Layouts.{fitb-fit}
use Rattle.bits.proofs.Refusal.{refusal-here, refusal-later, refusal-append-given}
use Rattle.gf2.specs.Polynomial.{add}
use Rattle.dsc.specs.Repair.{number_of}
use Rattle.dsc.specs.Marks.{unmarked, repair_by}
use Rattle.dsc.proofs.MarkedAnswers.{sized-whole}
use Rattle.sync_pattern.specs.Pattern.{sync_number, differing_from, sync_of}
use Rattle.frame.specs.Identification.{class_of, is_undefined}
use Rattle.frame.specs.Body.{row, layout}
use Rattle.frame.specs.Fields.{fields, scatter, field_widths, record_body, over_limit}
use Rattle.frame.specs.Area.{warned_in}
use Rattle.frame.specs.Read.{before_repair, after_repair, refusal_by, frame_refusal, read_of}
use Rattle.frame.specs.Write.{Legal, record_refusal, frame_of}
use Rattle.frame.specs.Worked.{AtLatitude, at_latitude, Worked, area_record}
use Rattle.frame.specs.declared.Edition.TheVariants.{First}
use Rattle.frame.specs.declared.Class.{Class}
use Rattle.frame.specs.declared.Body.{Body}
use Rattle.frame.specs.declared.Body.TheVariants.{PlacePage}
use Rattle.frame.specs.declared.Tuner.{Tuner}
use Rattle.frame.specs.declared.Record.{Record}
use Rattle.frame.specs.declared.Reading.TheVariants.{Refused}
use Rattle.frame.proofs.Bodies.{Chosen, place, chosen, record-order, sound-legal}
use Rattle.frame.proofs.Frames.{word_of, length-frame, found-refusal, own-outside}
use Rattle.frame.proofs.Readings.{frame-order, repaired-refusal}
use Rattle.frame.proofs.Promises.{comes_back, repair-own, refused-read}

place-known : {c : Class} {p k : ℕ} → Chosen c p k PlacePage → is_undefined c ≡ false
place-known (place e n) = refl

module _ (n : ℕ) (r : Record) (a : AtLatitude n r) where
  known : is_undefined (class_of First r.identification) ≡ false
  known = place-known (subst (Chosen (class_of First r.identification) r.page r.kind) a.body (chosen (class_of First r.identification) r.page r.kind))

  fit : Fit (field_widths (record_body First r)) (fields r)
  fit = fitb-fit (field_widths (record_body First r)) (fields r) (not-false (fitb (field_widths (record_body First r)) (fields r)) a.fit)

  -- only the latitude decides
  limits : over_limit (record_body First r) r.latitude r.longitude ≡ (ltb 900 n || false)
  limits =
      ap (λ (b : Body). over_limit b r.latitude r.longitude) a.body
      ∙ ap₂ (λ (m : ℕ) (t : Bool). ltb 900 m || t) a.latitude (le-ltb 1800 r.longitude a.longitude)

legal : (r : Record) → AtLatitude 900 r → Legal First r
legal r a = sound-legal First r (record { known = known 900 r a; fit = fit 900 r a; limits = limits 900 r a })

not_written : (r : Record) → AtLatitude 901 r → record_refusal First r ≡ 9
unfolding record_refusal
not_written r a = refusal-later 6 _ (known 901 r a) ∙ refusal-later 10 _ a.fit ∙ refusal-here 9 [] (limits 901 r a)

not-read : (t : Tuner) (r : Record) → AtLatitude 901 r → read_of First t (frame_of First r) ≡ Refused 9
not-read t r a =
    let f = frame_of First r in
    let g = fit 901 r a in
    let o = own-outside First r g in
    let e : frame_refusal First f ≡ 9 =
    repaired-refusal First unmarked f (word_of First r) 0 (sized-whole unmarked f (length-frame First r) tt) o.filler (ap sync_number o.sync) (repair-own First r)
    ∙ found-refusal First r g (known 901 r a) ∙ refusal-here 9 [] (limits 901 r a) in
    refused-read First unmarked t f (λ z. omega arith) ∙ ap Refused e

some : (n : ℕ) → n < 1024 → AtLatitude n (at_latitude n)
unfolding at_latitude class_of row layout scatter field_widths free_widths
some n h = record { body = refl; fit = rw (lt-ltb n 1024 h); longitude = omega arith; latitude = refl }

zero-bytes : (t : Tuner) → read_of First t (replicate 26 0) ≡ Refused 3
unfolding refusal_by first_refusal sync_of differing_from add bits bits_of odd value digit
zero-bytes t =
    let f : List ℕ = replicate 26 0 in
    let e : frame_refusal First f ≡ 3 = refusal-append-given (before_repair unmarked f) ((4, not (eqb (number_of (repair_by unmarked f)) 0)) ∷ after_repair First (repair_by unmarked f).word) 3 (omega arith) refl in
    refused-read First unmarked t f (λ z. omega arith) ∙ ap Refused e

all-test : T (below 56 (λ k. warned_in (area_record 0) k))
unfolding below warned_in area_record odd
all-test = tt

tokyo-test : T (below 56 (λ k. eqb k 15 || not (warned_in (area_record 0xFFFEFFFFFFFFFF) k)))
unfolding below warned_in area_record odd
tokyo-test = tt

T_true : (b : Bool) → T b → b ≡ true
T_true true t = refl
T_true false t = absurd t

others-not : (k : ℕ) → k < 56 → k ≢ 15 → warned_in (area_record 0xFFFEFFFFFFFFFF) k ≡ false
others-not k h ne =
    T_not (warned_in (area_record 0xFFFEFFFFFFFFFF) k)
    (subst (λ b. T (b || not (warned_in (area_record 0xFFFEFFFFFFFFFF) k))) (ne_eqb k 15 ne)
    (below_at 56 (λ k. eqb k 15 || not (warned_in (area_record 0xFFFEFFFFFFFFFF) k)) tokyo-test k h))

tokyo : warned_in (area_record 0xFFFEFFFFFFFFFF) 15 ≡ true
unfolding warned_in area_record odd
tokyo = refl

pub worked : Worked
worked =
    record {
      example8-written = legal;
      example8-read = λ t r a. comes_back First t r (legal r a);
      example8-not-written = not_written;
      example8-not-read = not-read;
      example8-some = some;
      example10 = zero-bytes;
      frame-order = frame-order;
      record-order = record-order;
      all-warned = λ k h. T_true (warned_in (area_record 0) k) (below_at 56 (λ k. warned_in (area_record 0) k) all-test k h);
      tokyo-warned = tokyo;
      others-not = others-not;
    }
