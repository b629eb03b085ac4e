-- Frames that are accepted: what that comes to, what is read of them, and that this is legal and writes the repaired word. Assumes nothing.
use mathlib.Core.Path.{◌≡◌, refl, sym, ap, ap₂, ◌∙◌, subst}
use mathlib.Core.Bool.{Bool, true, false, true≢false, not, and-eq-true_iff}
use mathlib.Core.Logic.{◌≢◌}
use mathlib.Core.List.{List, [], ◌∷◌, ◌++◌}
use Prim.Native.Nat.{ℕ, ◌≤◌, ◌<◌}
use native.Mathlib.Omega.{arith}
use lib.Dec.{eqb}
use lib.ListN.{length, take, drop}
use borrow.Author.Tests.{eq-eqb, eqb-true, not-false}
use Rattle.bits.specs.Bits.{value, bits_of, bits}
use Rattle.bits.specs.Field.{field_at}
use Rattle.bits.specs.Layout.{Fit}
use Rattle.bits.specs.Segment.{pack_segments}
use Rattle.bits.specs.Refusal.{first_refusal, test_numbers, NoneGiven}
use Rattle.bits.proofs.Bits.{value-take-lt}
use Rattle.bits.proofs.Segments.{pack-unpack_segments, fit-unpack_segments}
use Rattle.bits.proofs.Refusal.{refusal-later, refusal-none, none-refusal}
use Rattle.crc.specs.Crc.{crc10, crc10_of}
use Rattle.crc.proofs.Crc.{crc10-bits}
use Rattle.gf2.specs.Polynomial.{add}
use Rattle.dsc.specs.Code.{CodeWord, parity_of}
use Rattle.dsc.specs.Repair.{protected, word_bytes, repaired_to, number_of}
use Rattle.dsc.specs.Marks.{Marking, unmarked, marked, whole, repair_by, hits_by, FewBy}
use Rattle.dsc.specs.declared.Answer.{Answer}
use Rattle.dsc.proofs.Word.{length-word, parity-only}
use Rattle.dsc.proofs.Answers.{length-word_bytes, protected-word_bytes}
use Rattle.dsc.proofs.MarkedAnswers.{whole-frame, AnsweredBy, found, far, answered-by}
use Rattle.sync_pattern.specs.Pattern.{fit_with, sync_number, fitting_pattern, fitting_differing}
use Rattle.sync_pattern.proofs.Patterns.{fitting}
use Rattle.frame.specs.Identification.{class_of, start_end_of, update_of, is_undefined}
use Rattle.frame.specs.Body.{body_of, layout, own_update}
use Rattle.frame.specs.Fields.{fields, with_origin, field_widths, body_values, record_body, over_limit}
use Rattle.frame.specs.Read.{identification_in, class_in, body_in, details_in, values_in, record_in, sync_in, before_repair, after_repair, frame_tests, refusal_by, places_by, origin_in, contents_in, read_by}
use Rattle.frame.specs.Write.{Legal, announced, message_bits}
use Rattle.frame.specs.declared.Edition.{Edition}
use Rattle.frame.specs.declared.Class.{Class}
use Rattle.frame.specs.declared.Body.{Body}
use Rattle.frame.specs.declared.Body.TheVariants.{AreaPage, PlacePage, CancelPage, SafetyDetails, NoInformation}
use Rattle.frame.specs.declared.Tuner.{Tuner}
use Rattle.frame.specs.declared.Origin.{Origin}
use Rattle.frame.specs.declared.Record.{Record}
use Rattle.frame.specs.declared.Reading.TheVariants.{Accepted}
use Rattle.frame.proofs.Parts.{regroup, inner-part, part-split, part-bits, length_part, frame-bits, word_split}
use Rattle.frame.proofs.Bodies.{layout-sum, Chosen, area, place, cancel, safety, silent, undefined, chosen, sound-legal, record-values, record-fit, record-body, taken}
use Rattle.frame.proofs.Frames.{after-order, length-message, word_of}

-- the update, as the frame has it
update-again : (b : Body) (u : ℕ) {c : Class} {page kind : ℕ} → Chosen c page kind b → is_undefined c ≡ false → u ≡ update_of c u → update_of c (own_update b u) ≡ u
update-again AreaPage u (area n) d e = refl
update-again PlacePage u (place q n) d e = refl
update-again CancelPage u (cancel q k) d e = refl
update-again SafetyDetails u safety d e = refl
update-again NoInformation u silent d e = sym e
update-again NoInformation u undefined d e = absurd (true≢false d)

-- eight places at most are repaired, with marks too
pub few-eight : (q : Marking) (n : ℕ) → FewBy q n → n ≤ 8
few-eight unmarked n h = h
few-eight (marked m) n h = omega arith

-- ---- accepted frames

module _ (ed : Edition) (q : Marking) where
  -- a frame that no refusal is given to: its word, the number of places repaired, its pattern, the number of bits that differ from it
  pub record Judged (f : List ℕ) : Type 0 where
    pub word : List Bool
    pub places : ℕ
    pub pattern : ℕ
    pub differing : ℕ
    pub complete : whole q f ≡ true
    pub filler : field_at f 204 4 ≡ 0
    pub sync : sync_in f ≡ fit_with pattern differing
    pub code-word : CodeWord word
    -- the places that count in which the word differs from the received bits, which are not too many
    pub counted : places ≡ hits_by q (add (protected f) word)
    pub few : FewBy q places
    pub repaired : repair_by q f ≡ repaired_to word places
    pub tests : NoneGiven (after_repair ed (word_bytes word))

  -- the order of all tests
  pub frame-order : (f : List ℕ) → test_numbers (frame_tests ed q f) ≡ 1 ∷ 2 ∷ 3 ∷ 4 ∷ 5 ∷ 6 ∷ 7 ∷ 8 ∷ 9 ∷ []
  frame-order f = ap (λ (l : List ℕ). 1 ∷ 2 ∷ 3 ∷ 4 ∷ l) (after-order ed (repair_by q f).word)

  refusals : List ℕ → List (ℕ × Bool)
  refusals f = before_repair q f ++ (4, not (eqb (number_of (repair_by q f)) 0)) ∷ after_repair ed (repair_by q f).word

  pub accepted-judged : (f : List ℕ) → refusal_by ed q f ≡ 0 → Judged f
  unfolding refusal_by refusals
  accepted-judged f e =
      let h = refusal-none (refusals f) refl e in
      let complete = not-false (whole q f) h.0 in
      let number = eqb-true (number_of (repair_by q f)) 0 (not-false (eqb (number_of (repair_by q f)) 0) h.1.1.1.0) in
      go complete number h.1.0 h.1.1.0 h.1.1.1.1 (answered-by q f complete)
    where
      go : whole q f ≡ true → number_of (repair_by q f) ≡ 0 → not (eqb (field_at f 204 4) 0) ≡ false → not (eqb (sync_number (sync_in f)) 0) ≡ false
          → NoneGiven (after_repair ed (repair_by q f).word) → AnsweredBy q f → Judged f
      go complete number filler pattern tests (found c k d e) =
          record {
            word = c;
            places = hits_by q (add (protected f) c);
            pattern = fitting_pattern (sync_in f);
            differing = fitting_differing (sync_in f);
            complete = complete;
            filler = eqb-true (field_at f 204 4) 0 (not-false (eqb (field_at f 204 4) 0) filler);
            sync = fitting (sync_in f) (eqb-true (sync_number (sync_in f)) 0 (not-false (eqb (sync_number (sync_in f)) 0) pattern));
            code-word = k;
            counted = refl;
            few = d;
            repaired = e;
            tests = subst (λ (a : Answer). NoneGiven (after_repair ed a.word)) e tests;
          }
      go complete number filler pattern tests (far n e) = let z : ◌≡◌ {A = ℕ} 4 0 = sym (ap number_of e) ∙ number in absurd (omega arith)

  -- a frame whose word is repaired is judged by the repaired word
  pub repaired-refusal : (f : List ℕ) (w : List Bool) (n : ℕ) → whole q f ≡ true → field_at f 204 4 ≡ 0 → sync_number (sync_in f) ≡ 0 → repair_by q f ≡ repaired_to w n
      → refusal_by ed q f ≡ first_refusal (after_repair ed (word_bytes w))
  unfolding refusal_by
  repaired-refusal f w n complete filler pattern e =
      refusal-later 1 _ (ap not complete)
      ∙ refusal-later 2 _ (ap not (eq-eqb (field_at f 204 4) 0 filler))
      ∙ refusal-later 3 _ (ap not (eq-eqb (sync_number (sync_in f)) 0 pattern))
      ∙ refusal-later 4 _ (ap (λ (a : Answer). not (eqb (number_of a) 0)) e)
      ∙ ap (λ (a : Answer). first_refusal (after_repair ed a.word)) e

  module _ (f : List ℕ) (j : Judged f) where
    pub judged-size : length f ≡ 26
    judged-size = whole-frame q f j.complete

    pub judged-accepted : refusal_by ed q f ≡ 0
    judged-accepted = repaired-refusal f j.word j.places j.complete j.filler (ap sync_number j.sync) j.repaired ∙ none-refusal (after_repair ed (word_bytes j.word)) j.tests

    pub judged-places : places_by ed q f ≡ j.places
    unfolding places_by
    judged-places = rw (judged-accepted, j.repaired)

    judged-origin : (t : Tuner) → origin_in ed q t f ≡ record { tuner = t; repaired = j.places }
    judged-origin t = ap (λ (n : ℕ). record { tuner = t; repaired = n }) judged-places

    judged-contents : contents_in ed q f ≡ record_in ed (field_at f 0 1) j.pattern (word_bytes j.word)
    judged-contents = ap₂ (λ (p : ℕ) (a : Answer). record_in ed (field_at f 0 1) p a.word) (ap fitting_pattern j.sync) j.repaired

    pub judged-read : (t : Tuner) → read_by ed q t f
        ≡ Accepted (with_origin (record { tuner = t; repaired = j.places }) (record_in ed (field_at f 0 1) j.pattern (word_bytes j.word))) j.differing
    unfolding read_by
    judged-read t =
        rw judged-accepted
        (ap₂ Accepted (ap₂ (λ (o : Origin) (r : Record). with_origin o r) (judged-origin t) judged-contents) (ap fitting_differing j.sync))

module _ (ed : Edition) where
  -- ---- the record that is read

  -- the body is chosen by what stands in the details
  chosen-in : (c : List ℕ) → Chosen (class_in ed c) (value (take 1 (drop 31 (details_in c)))) (value (take 1 (drop 43 (details_in c)))) (body_in ed c)
  chosen-in c =
      rw (inner-part 1 31 88 24 (bits c) (omega arith), inner-part 1 43 88 24 (bits c) (omega arith)) (chosen (class_in ed c) (field_at c 55 1) (field_at c 67 1))

  module _ (w : List Bool) (k : CodeWord w) (t : NoneGiven (after_repair ed (word_bytes w))) (x p : ℕ) where
    same_body : record_body ed (record_in ed x p (word_bytes w)) ≡ body_in ed (word_bytes w)
    same_body =
        let c = word_bytes w in
        let r = record_in ed x p c in
        let b = body_in ed c in
        let i = identification_in c in
        let u = field_at c 19 2 in
        ap (λ (n : ℕ). body_of (class_of ed n) r.page r.kind) (taken b x p i u (values_in ed c)).identification
        ∙ record-body b x p i u (details_in c) (chosen-in c)

    pub read-legal : x < 2 → p < 2 → Legal ed (record_in ed x p (word_bytes w))
    read-legal hx hp =
        let c = word_bytes w in
        let r = record_in ed x p c in
        let b = body_in ed c in
        let i = identification_in c in
        let u = field_at c 19 2 in
        let vs = values_in ed c in
        let y = taken b x p i u vs in
        let f = record-fit b x p i u vs hx hp (value-take-lt 3 (drop 21 (bits c))) (value-take-lt 2 (drop 19 (bits c))) (fit-unpack_segments (layout b) (details_in c)) in
        sound-legal ed r
        (record {
          known = ap (λ (n : ℕ). is_undefined (class_of ed n)) y.identification ∙ t.1.0;
          fit = subst (λ (z : Body). Fit (field_widths z) (fields r)) (sym same_body) f;
          limits =
              ap (λ (z : Body). over_limit z r.latitude r.longitude) same_body
              ∙ ap₂ (λ (m n : ℕ). over_limit b m n) y.latitude y.longitude
              ∙ t.1.1.1.1.0;
        })

    -- B21 to B111
    read-announced : announced ed (record_in ed x p (word_bytes w)) ≡ take 3 (drop 21 (bits (word_bytes w))) ++ details_in (word_bytes w)
    unfolding announced
    read-announced =
        let c = word_bytes w in
        let lc : length (bits c) ≡ 208 = frame-bits c (length-word_bytes w) in
        let r = record_in ed x p c in
        let b = body_in ed c in
        let i = identification_in c in
        let u = field_at c 19 2 in
        let vs = values_in ed c in
        let l = layout b in
        let fixed = not-false _ t.1.1.1.0 in
        ap₂ (λ (n : ℕ) (z : Body). bits_of 3 n ++ pack_segments (layout z) (body_values z r)) (taken b x p i u vs).identification same_body
        ∙ ap₂ (λ (m : List Bool) (y : List ℕ). m ++ pack_segments l y) (part-bits 21 3 (bits c) (omega arith)) (record-values b x p i u vs (fit-unpack_segments l (details_in c)))
        ∙ ap (take 3 (drop 21 (bits c)) ++◌) (pack-unpack_segments l (details_in c) (length_part 24 88 (bits c) (omega arith) ∙ sym (layout-sum b)) fixed)

    -- B17 to B121
    read-message : let b = bits (word_bytes w) in
        message_bits ed (record_in ed x p (word_bytes w))
        ≡ take 2 (drop 17 b) ++ (take 2 (drop 19 b) ++ ((take 3 (drop 21 b) ++ details_in (word_bytes w)) ++ take 10 (drop 112 b)))
    unfolding message_bits
    read-message =
        let c = word_bytes w in
        let lc : length (bits c) ≡ 208 = frame-bits c (length-word_bytes w) in
        let r = record_in ed x p c in
        let b = body_in ed c in
        let cl = class_in ed c in
        let i = identification_in c in
        let s = field_at c 17 2 in
        let u = field_at c 19 2 in
        let vs = values_in ed c in
        let cover = take 3 (drop 21 (bits c)) ++ details_in c in
        let class : class_of ed r.identification ≡ cl = ap (class_of ed) (taken b x p i u vs).identification in
        let flags = (and-eq-true_iff (eqb s (start_end_of cl)) (eqb u (update_of cl u))).0 (not-false _ t.1.1.0) in
        let start : start_end_of (class_of ed r.identification) ≡ s = ap start_end_of class ∙ sym (eqb-true s (start_end_of cl) flags.0) in
        let update : update_of (class_of ed r.identification) r.update ≡ u =
        ap₂ update_of class (taken b x p i u vs).update
        ∙ update-again b u (chosen cl (field_at c 55 1) (field_at c 67 1)) t.1.0 (eqb-true u (update_of cl u) flags.1) in
        let number : field_at c 112 10 ≡ crc10_of (take 91 (drop 21 (bits c))) = eqb-true (field_at c 112 10) (crc10_of (take 91 (drop 21 (bits c)))) (not-false _ t.0) in
        let check : crc10 (announced ed r) ≡ take 10 (drop 112 (bits c)) =
        ap crc10 (read-announced ∙ sym (part-split 21 3 88 (bits c)))
        ∙ sym (crc10-bits (take 91 (drop 21 (bits c)))) ∙ ap (bits_of 10) (sym number) ∙ part-bits 112 10 (bits c) (omega arith) in
        ap₂ (λ (m n : ℕ). bits_of 2 m ++ (bits_of 2 n ++ (announced ed r ++ crc10 (announced ed r)))) start update
        ∙ ap₂ (λ (m n : List Bool). m ++ (n ++ (announced ed r ++ crc10 (announced ed r)))) (part-bits 17 2 (bits c) (omega arith)) (part-bits 19 2 (bits c) (omega arith))
        ∙ ap₂ (λ (m n : List Bool). take 2 (drop 17 (bits c)) ++ (take 2 (drop 19 (bits c)) ++ (m ++ n))) read-announced check

    -- the word that was read, written again
    pub read_word : word_of ed (record_in ed x p (word_bytes w)) ≡ w
    read_word =
        let c = word_bytes w in
        let lc : length (bits c) ≡ 208 = frame-bits c (length-word_bytes w) in
        let m = message_bits ed (record_in ed x p c) in
        let b = bits c in
        let s = take 2 (drop 17 b) in
        let u = take 2 (drop 19 b) in
        let a = take 3 (drop 21 b) ++ details_in c in
        let check = take 10 (drop 112 b) in
        let q = take 82 (drop 122 b) in
        let shape : w ≡ m ++ q =
        sym (protected-word_bytes w (length-word w k)) ∙ word_split c (length-word_bytes w)
        ∙ sym (regroup s u a check q)
        ∙ ap (◌++ q) (sym read-message) in
        let parity : q ≡ parity_of m =
        parity-only m (length-message ed (record_in ed x p c)) q (length_part 122 82 b (omega arith)) (subst CodeWord shape k) in
        sym (shape ∙ ap (m ++◌) parity)
