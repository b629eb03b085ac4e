-- The frame of a legal record: its parts, and what is read of its word. Assumes nothing.
use mathlib.Core.Path.{◌≡◌, refl, sym, ap, ap₂, ◌∙◌, subst}
use mathlib.Core.Bool.{Bool, true, false, not}
use mathlib.Core.List.{List, [], ◌∷◌, ◌++◌, append_assoc}
use Prim.Native.Nat.{ℕ, ◌+◌, ◌^◌, ◌≤◌, ◌<◌}
use native.Mathlib.Omega.{arith}
use lib.ListN.{length, take, drop, length-append, length-replicate}
use borrow.Author.Tests.{eq-eqb}
use Rattle.bits.specs.Bits.{value, bits_of, bits}
use Rattle.bits.specs.Field.{field_at}
use Rattle.bits.specs.Layout.{Fit}
use Rattle.bits.specs.Segment.{pack_segments, unpack_segments, fixed_bits_hold}
use Rattle.bits.specs.Refusal.{first_refusal, test_numbers, NoneGiven}
use Rattle.bits.proofs.Bits.{length-bits_of, length-bytes, bits-bytes, value-bits_of-fit, value-zeros}
use Rattle.bits.proofs.Segments.{length-pack_segments, unpack-pack_segments, fixed-pack_segments}
use Rattle.bits.proofs.Refusal.{refusal-later, refusal-none, none-refusal}
use Rattle.gf2.specs.Polynomial.{zeros, add}
use Rattle.gf2.proofs.Sum.{add-zeros}
use Rattle.crc.specs.Crc.{crc10, crc10_of}
use Rattle.crc.proofs.Crc.{length-crc10}
use Rattle.dsc.specs.Code.{CodeWord, weight, parity_of}
use Rattle.dsc.specs.Repair.{protected, word_bytes}
use Rattle.dsc.proofs.Word.{length-word, length-parity, parity-word}
use Rattle.dsc.proofs.Answers.{length-word_bytes, protected-word_bytes}
use Rattle.dsc.proofs.Weight.{weight-zeros}
use Rattle.sync_pattern.specs.Pattern.{pattern_bits, fit_with, sync_of}
use Rattle.sync_pattern.proofs.Patterns.{length-pattern}
use Rattle.sync_pattern.proofs.Promises.{pattern-test}
use Rattle.frame.specs.Identification.{class_of, start_end_of, update_of, flags_wrong, is_undefined}
use Rattle.frame.specs.Body.{body_of, layout, own_update}
use Rattle.frame.specs.Fields.{fields, no_origin, record_from, with_origin, field_widths, body_values, record_body, over_limit, record_of}
use Rattle.frame.specs.Read.{identification_in, body_in, details_in, values_in, record_in, sync_bits, sync_in, after_repair}
use Rattle.frame.specs.Promises.{SameOutside, HitPart}
use Rattle.frame.specs.Write.{Legal, announced, message_bits, frame_of}
use Rattle.frame.specs.declared.Edition.{Edition}
use Rattle.frame.specs.declared.Class.{Class}
use Rattle.frame.specs.declared.Class.TheVariants.{Warning, SafetyInformation, Silent, Undefined}
use Rattle.frame.specs.declared.Body.{Body}
use Rattle.frame.specs.declared.Body.TheVariants.{AreaPage, PlacePage, CancelPage, SafetyDetails, NoInformation}
use Rattle.frame.specs.declared.Record.{Record}
use Rattle.frame.proofs.Parts.{regroup, inner-part, FrameParts, frame-parts, WordParts, word-parts}
use Rattle.frame.proofs.Bodies.{layout-sum, Chosen, area, place, cancel, safety, silent, undefined, chosen, legal-sound, heads, own-update, body-fit, body-record, body-again, taken}

-- ---- the fields that every legal record has

pub update-lt : (b : Body) (r : Record) {c : Class} → Chosen c r.page r.kind b → r.update < 2 ^ own_update b 2 → update_of c r.update < 4
update-lt AreaPage r (area n) h = h
update-lt PlacePage r (place p n) h = h
update-lt CancelPage r (cancel p k) h = h
update-lt SafetyDetails r safety h = h
update-lt NoInformation r silent h = omega arith
update-lt NoInformation r undefined h = omega arith

pub start-lt : (c : Class) → start_end_of c < 4
start-lt Warning = omega arith
start-lt SafetyInformation = omega arith
start-lt Silent = omega arith
start-lt Undefined = omega arith

-- start/end and update as the class asks
flags-right : (c : Class) (u : ℕ) → flags_wrong c (start_end_of c) (update_of c u) ≡ false
flags-right Warning u = rw (eq-eqb u u refl)
flags-right SafetyInformation u = rw (eq-eqb u u refl)
flags-right Silent u = refl
flags-right Undefined u = rw (eq-eqb u u refl)

-- ---- what stands outside the word

-- n bits of B1 to B16 differ from the record's pattern
pub record Outside (r : Record) (n : ℕ) (f : List ℕ) : Type 0 where
  pub reference : field_at f 0 1 ≡ r.reference
  pub sync : sync_in f ≡ fit_with r.pattern n
  pub filler : field_at f 204 4 ≡ 0

-- the order of the tests after the repair; it stands before the laws that go through them, so that another order is refused here
pub after-order : (ed : Edition) (c : List ℕ) → test_numbers (after_repair ed c) ≡ 5 ∷ 6 ∷ 7 ∷ 8 ∷ 9 ∷ []
after-order ed c = refl

-- a part that was not hit
pub not-hit : (limit n : ℕ) (u : List Bool) → HitPart weight (◌≤ limit) n (zeros n) u u
not-hit limit n u = record { places = length-replicate n false; few = omega (arith, weight-zeros n); hit = sym (add-zeros n u) }

-- ---- the parts' sizes

module _ (ed : Edition) where
  pub length-announced : (r : Record) → length (announced ed r) ≡ 91
  unfolding announced
  length-announced r =
      let b = record_body ed r in
      length-append (bits_of 3 r.identification) (pack_segments (layout b) (body_values b r))
      ∙ ap₂ ◌+◌ (length-bits_of 3 r.identification) (length-pack_segments (layout b) (body_values b r) ∙ layout-sum b)

  pub length-message : (r : Record) → length (message_bits ed r) ≡ 105
  unfolding message_bits
  length-message r =
      simp (length-append, length-bits_of) (omega (arith, length-announced r, length-crc10 (announced ed r)))

  -- the word of a record: its message and the parity
  abbrev pub word_of : Record → List Bool
  word_of r = message_bits ed r ++ parity_of (message_bits ed r)

  pub record-word : (r : Record) → CodeWord (word_of r)
  record-word r = parity-word (message_bits ed r) (length-message r)

  -- ---- the whole frame

  pub length-frame : (r : Record) → length (frame_of ed r) ≡ 26
  unfolding frame_of
  length-frame r = length-bytes 26 _

  pub bits-frame : (r : Record) → bits (frame_of ed r) ≡ bits_of 1 r.reference ++ (pattern_bits r.pattern ++ (word_of r ++ zeros 4))
  unfolding frame_of
  bits-frame r =
      let m = message_bits ed r in
      let p = parity_of m in
      bits-bytes 26 (bits_of 1 r.reference ++ (pattern_bits r.pattern ++ (m ++ (p ++ zeros 4))))
      (simp (length-append, length-bits_of) (omega (arith, length-message r, length-parity m (length-message r))))
      ∙ ap (λ (l : List Bool). bits_of 1 r.reference ++ (pattern_bits r.pattern ++ l)) (sym (append_assoc m p (zeros 4)))

  pub parts-frame : (r : Record) → FrameParts (frame_of ed r) (bits_of 1 r.reference) (pattern_bits r.pattern) (word_of r) (zeros 4)
  parts-frame r =
      frame-parts (frame_of ed r) (bits_of 1 r.reference) (pattern_bits r.pattern) (word_of r) (zeros 4) (length-frame r)
      (length-bits_of 1 r.reference) (length-pattern r.pattern) (length-word (word_of r) (record-word r)) (bits-frame r)

  -- ---- the word of a record, in the bytes c: what the reader finds in it

  module _ (r : Record) (c : List ℕ) (size : length c ≡ 26) (own : protected c ≡ word_of r) where
    pub own-parts : let b = record_body ed r in let cl = class_of ed r.identification in
        WordParts c (bits_of 2 (start_end_of cl)) (bits_of 2 (update_of cl r.update)) (bits_of 3 r.identification)
        (pack_segments (layout b) (body_values b r)) (crc10 (announced ed r))
    unfolding message_bits announced
    own-parts =
        let b = record_body ed r in
        let cl = class_of ed r.identification in
        let s = bits_of 2 (start_end_of cl) in
        let u = bits_of 2 (update_of cl r.update) in
        let p = parity_of (message_bits ed r) in
        let d = pack_segments (layout b) (body_values b r) in
        let k = crc10 (announced ed r) in
        word-parts c s u (bits_of 3 r.identification) d k p size
        (length-bits_of 2 (start_end_of cl)) (length-bits_of 2 (update_of cl r.update)) (length-bits_of 3 r.identification)
        (length-pack_segments (layout b) (body_values b r) ∙ layout-sum b) (length-crc10 (announced ed r))
        (own ∙ regroup s u (announced ed r) k p)

  pub record Found (r : Record) (c : List ℕ) : Type 0 where
    pub identification : identification_in c ≡ r.identification
    pub start : field_at c 17 2 ≡ start_end_of (class_of ed r.identification)
    pub update : field_at c 19 2 ≡ update_of (class_of ed r.identification) r.update
    pub body : body_in ed c ≡ record_body ed r
    pub values : values_in ed c ≡ body_values (record_body ed r) r
    pub fixed : fixed_bits_hold (layout (body_in ed c)) (details_in c) ≡ true
    pub covered : take 91 (drop 21 (bits c)) ≡ announced ed r
    pub check : field_at c 112 10 ≡ crc10_of (announced ed r)

  pub word-found : (r : Record) → Fit (field_widths (record_body ed r)) (fields r) → Found r (word_bytes (word_of r))
  unfolding announced
  word-found r f =
      let b = record_body ed r in
      let i = r.identification in
      let c = word_bytes (word_of r) in
      let p = own-parts r c (length-word_bytes (word_of r)) (protected-word_bytes (word_of r) (length-word (word_of r) (record-word r))) in
      let ch = chosen (class_of ed i) r.page r.kind in
      let identification : identification_in c ≡ i = ap value p.identification ∙ value-bits_of-fit 3 i (heads b r f).identification in
      let bit : (k : ℕ) → k + 1 ≤ 88 → field_at c (24 + k) 1 ≡ value (take 1 (drop k (pack_segments (layout b) (body_values b r)))) =
      λ k h. ap value (sym (inner-part 1 k 88 24 (bits c) h) ∙ ap (λ (d : List Bool). take 1 (drop k d)) p.details) in
      let body : body_in ed c ≡ b =
      ap (λ (n : ℕ). body_of (class_of ed n) (field_at c 55 1) (field_at c 67 1)) identification
      ∙ ap₂ (λ (m n : ℕ). body_of (class_of ed i) m n) (bit 31 (omega arith)) (bit 43 (omega arith))
      ∙ body-again b r ch f in
      record {
        identification = identification;
        start = ap value p.start ∙ value-bits_of-fit 2 (start_end_of (class_of ed i)) (start-lt (class_of ed i));
        update = ap value p.update ∙ value-bits_of-fit 2 (update_of (class_of ed i) r.update) (update-lt b r ch (own-update b r f));
        body = body;
        values = ap₂ (λ (x : Body) (d : List Bool). unpack_segments (layout x) d) body p.details ∙ unpack-pack_segments (layout b) (body_values b r) (body-fit b r f);
        fixed = ap₂ (λ (x : Body) (d : List Bool). fixed_bits_hold (layout x) d) body p.details ∙ fixed-pack_segments (layout b) (body_values b r) (body-fit b r f);
        covered = p.covered;
        check = ap value p.check;
      }

  -- the record itself, and no refusal but 9
  module _ (r : Record) (f : Fit (field_widths (record_body ed r)) (fields r)) where
    pub found-record : record_in ed r.reference r.pattern (word_bytes (word_of r)) ≡ with_origin no_origin r
    found-record =
        let c = word_bytes (word_of r) in
        let b = record_body ed r in
        let x = r.reference in
        let p = r.pattern in
        let h = word-found r f in
        ap₂ (λ (y : Body) (vs : List ℕ). record_of y x p (identification_in c) (field_at c 19 2) vs) h.body h.values
        ∙ ap₂ (λ (i u : ℕ). record_of b x p i u (body_values b r)) h.identification h.update
        ∙ body-record b r (chosen (class_of ed r.identification) r.page r.kind) f

    pub found-refusal : is_undefined (class_of ed r.identification) ≡ false
        → first_refusal (after_repair ed (word_bytes (word_of r))) ≡ first_refusal ((9, over_limit (record_body ed r) r.latitude r.longitude) ∷ [])
    unfolding record_from
    found-refusal known =
        let c = word_bytes (word_of r) in
        let b = record_body ed r in
        let i = r.identification in
        let h = word-found r f in
        let t = taken (body_in ed c) r.reference r.pattern (identification_in c) (field_at c 19 2) (values_in ed c) in
        let latitude : (record_in ed 0 0 c).latitude ≡ r.latitude = sym t.latitude ∙ ap (λ (y : Record). y.latitude) found-record in
        let longitude : (record_in ed 0 0 c).longitude ≡ r.longitude = sym t.longitude ∙ ap (λ (y : Record). y.longitude) found-record in
        refusal-later 5 _ (ap not (eq-eqb (field_at c 112 10) (crc10_of (take 91 (drop 21 (bits c)))) (h.check ∙ sym (ap crc10_of h.covered))))
        ∙ refusal-later 6 _ (ap (λ (n : ℕ). is_undefined (class_of ed n)) h.identification ∙ known)
        ∙ refusal-later 7 _
        (ap (λ (n : ℕ). flags_wrong (class_of ed n) (field_at c 17 2) (field_at c 19 2)) h.identification
        ∙ ap₂ (λ (m n : ℕ). flags_wrong (class_of ed i) m n) h.start h.update
        ∙ flags-right (class_of ed i) r.update)
        ∙ refusal-later 8 _ (ap not h.fixed)
        ∙ ap (λ (t : Bool). first_refusal ((9, t) ∷ []))
        (ap (λ (y : Body). over_limit y (record_in ed 0 0 c).latitude (record_in ed 0 0 c).longitude) h.body
        ∙ ap₂ (λ (m n : ℕ). over_limit b m n) latitude longitude)

  -- of a legal record none
  pub found-accepted : (r : Record) → Legal ed r → NoneGiven (after_repair ed (word_bytes (word_of r)))
  found-accepted r l =
      let s = legal-sound ed r l in
      refusal-none (after_repair ed (word_bytes (word_of r))) refl (found-refusal r s.fit s.known ∙ refusal-later 9 [] s.limits ∙ none-refusal [] tt)

  -- a frame whose bits outside B1 to B203 are those of a record's frame, and whose B1 to B16 are that frame's, hit in the places of s
  pub outside : (r : Record) → Fit (field_widths (record_body ed r)) (fields r) → (f : List ℕ) (s : List Bool) → SameOutside f (frame_of ed r)
      → HitPart weight (◌≤ 3) 16 s (sync_bits f) (sync_bits (frame_of ed r)) → Outside r (weight s) f
  outside r fit f s same hit =
      let q = heads (record_body ed r) r fit in
      let p = parts-frame r in
      record {
        reference = ap value (same.reference ∙ p.reference) ∙ value-bits_of-fit 1 r.reference q.reference;
        sync = ap sync_of (hit.hit ∙ ap (add s) p.pattern) ∙ pattern-test.sent r.pattern s q.pattern hit.places hit.few;
        filler = ap value (ap (take 4) same.filler ∙ p.filler) ∙ value-zeros 4;
      }

  pub own-outside : (r : Record) → Fit (field_widths (record_body ed r)) (fields r) → Outside r 0 (frame_of ed r)
  own-outside r fit =
      subst (λ (n : ℕ). Outside r n (frame_of ed r)) (weight-zeros 16)
      (outside r fit (frame_of ed r) (zeros 16) (record { reference = refl; filler = refl }) (not-hit 3 16 (sync_bits (frame_of ed r))))
