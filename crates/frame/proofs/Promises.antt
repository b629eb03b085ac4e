-- The promises hold. Assumes nothing.
use mathlib.Core.Path.{◌≡◌, refl, sym, ap, ap₂, ◌∙◌, subst}
use mathlib.Core.Bool.{Bool, true, false, not, cond}
use mathlib.Core.Logic.{◌≢◌}
use mathlib.Core.List.{List, [], ◌∷◌, ◌++◌, append_assoc}
use Prim.Native.Nat.{ℕ, ◌+◌, ◌≤◌, ◌<◌}
use native.Mathlib.Omega.{arith}
use lib.Dec.{eqb}
use lib.ListN.{length, take, drop, get_or, length-append, length-drop}
use borrow.Author.Tests.{eq-eqb, ne_eqb, eqb-true, eqb-false, not-true}
use Rattle.std.specs.Prelude.{Option}
use Rattle.bits.specs.Bits.{odd, bits_of, bits, bytes, Bytes}
use Rattle.bits.specs.Field.{field_at}
use Rattle.bits.proofs.Bits.{value-take-lt, length-bytes, bits-bytes, bits-inj, bytes-Bytes}
use Rattle.bits.proofs.Refusal.{refusal-here, refusal-later, refusal-met}
use Rattle.gf2.specs.Polynomial.{zeros, add}
use Rattle.gf2.proofs.Sum.{length-add}
use Rattle.dsc.specs.Code.{CodeWord, weight, dist, parity_of}
use Rattle.dsc.specs.Repair.{protected, word_bytes, repaired_to, number_of, repair_of}
use Rattle.dsc.specs.Marks.{Marking, unmarked, whole, repair_by, MarksSized, hits_by, FewBy}
use Rattle.dsc.specs.declared.Answer.{Answer}
use Rattle.dsc.proofs.Word.{length-word}
use Rattle.dsc.proofs.Distance.{dist-none, dist_same}
use Rattle.dsc.proofs.Answers.{length-protected, protected-word_bytes, repair-found}
use Rattle.dsc.proofs.MarkedAnswers.{sized-whole, found-by, hits-sent}
use Rattle.sync_pattern.specs.Pattern.{pattern_bits, differing_from, sync_number, fitting_pattern}
use Rattle.sync_pattern.specs.Promises.{FarFromBoth, Fitting}
use Rattle.sync_pattern.specs.declared.Fit.{Fit}
use Rattle.sync_pattern.proofs.Patterns.{differing-dist, fitting-none}
use Rattle.sync_pattern.proofs.Promises.{pattern-test}
use Rattle.frame.specs.Body.{row}
use Rattle.frame.specs.Fields.{fields, no_origin, record_from, with_origin, SameFields}
use Rattle.frame.specs.Read.{identification_in, body_in, values_in, record_in, sync_bits, sync_in, after_repair, refusal_by, places_by, judge_by, read_by, read_of, reading_number, reading_tuner, reading_places, reading_differing, reading_fields, clean_by, clean_of}
use Rattle.frame.specs.Area.{warned_in}
use Rattle.frame.specs.Write.{Legal, message_bits, record_refusal, frame_of, write_number, write_of}
use Rattle.frame.specs.Promises.{HitFrame, hit_frame, Mended, ComesBack, Told, Demand2, Origins, SameRecords, AreasOnAir, BitNumbers}
use Rattle.frame.specs.declared.Edition.{Edition}
use Rattle.frame.specs.declared.Record.{Record}
use Rattle.frame.specs.declared.Tuner.{Tuner}
use Rattle.frame.specs.declared.Tuner.TheVariants.{None}
use Rattle.frame.specs.declared.Origin.{Origin}
use Rattle.frame.specs.declared.Reading.{Reading}
use Rattle.frame.specs.declared.Reading.TheVariants.{Accepted, Refused}
use Rattle.frame.proofs.Parts.{part-bits, length_part, frame-bits, filler-whole, frame-split, frame-parts}
use Rattle.frame.proofs.Bodies.{layout-sum, legal-sound, taken}
use Rattle.frame.proofs.Written.{legal-exactly, written, unchanged}
use Rattle.frame.proofs.Origins.{from_fields, from-origin, from-again, from-legal, from-frame, same_whole, same-legal, same-written, same-warned}
use Rattle.frame.proofs.Frames.{word_of, record-word, length-frame, parts-frame, found-record, found-accepted, Outside, outside, own-outside}
use Rattle.frame.proofs.Areas.{warned-on-air}
use Rattle.frame.proofs.Readings.{Judged, accepted-judged, judged-accepted, judged-places, judged-size, judged-read, read-legal, read_word}

-- ---- what is told

told-as : (a b : Reading) → a ≡ b → Told a (reading_number b) (reading_tuner b) (reading_places b) (reading_differing b) (reading_fields b)
told-as a b e =
    record {
      by_number = ap reading_number e;
      by-tuner = ap reading_tuner e;
      by-places = ap reading_places e;
      by-differing = ap reading_differing e;
      by-fields = ap reading_fields e;
    }

-- what comes back is told
told_back : (r : Record) (t : Tuner) (m n : ℕ) (a : Reading) → ComesBack r t m n a → Told a 0 t m n (fields r)
told_back r t m n a c =
    let s = told-as a (Accepted c.back n) c.accepted in
    record {
      by_number = s.by_number;
      by-tuner = s.by-tuner ∙ c.tuner;
      by-places = s.by-places ∙ c.repaired;
      by-differing = s.by-differing;
      by-fields = s.by-fields ∙ sym c.same;
    }

-- a reading of the record from another origin
back_from : (r : Record) (t : Tuner) (m n : ℕ) (a : Reading) → a ≡ Accepted (with_origin (record { tuner = t; repaired = m }) r) n → ComesBack r t m n a
back_from r t m n a e =
    let o : Origin = record { tuner = t; repaired = m } in
    record {
      back = with_origin o r;
      accepted = e;
      same = sym (from_fields o r);
      tuner = ap (λ (p : Origin). p.tuner) (from-origin o r);
      repaired = ap (λ (p : Origin). p.repaired) (from-origin o r);
    }

-- ---- written and read

module _ (ed : Edition) (q : Marking) where
  -- a frame that has what stands outside the word of a legal record's frame, m bits of the pattern apart, and whose word is repaired to that record's
  read-record : (t : Tuner) (r : Record) (f : List ℕ) (m n : ℕ) → Legal ed r → whole q f ≡ true → Outside r m f
      → n ≡ hits_by q (add (protected f) (word_of ed r)) → FewBy q n → ComesBack r t n m (read_by ed q t f)
  read-record t r f m n l h o e d =
      let fit = (legal-sound ed r l).fit in
      let origin : Origin = record { tuner = t; repaired = n } in
      let j : Judged ed q f =
      record {
        word = word_of ed r;
        places = n;
        pattern = r.pattern;
        differing = m;
        complete = h;
        filler = o.filler;
        sync = o.sync;
        code-word = record-word ed r;
        counted = e;
        few = d;
        repaired = found-by q f h (word_of ed r) (record-word ed r) (subst (FewBy q) e d) ∙ ap (repaired_to (word_of ed r)) (sym e);
        tests = found-accepted ed r l;
      } in
      back_from r t n m (read_by ed q t f)
      (judged-read ed q f j t
      ∙ ap (λ (x : ℕ). Accepted (with_origin origin (record_in ed x r.pattern (word_bytes (word_of ed r)))) m) o.reference
      ∙ ap (λ (y : Record). Accepted (with_origin origin y) m) (found-record ed r fit)
      ∙ ap (λ (y : Record). Accepted y m) (from-again origin no_origin r))

  hit-comes-back : (t : Tuner) (r : Record) (s e : List Bool) (f : List ℕ) → Legal ed r → HitFrame ed q r s e f
      → ComesBack r t (hits_by q e) (weight s) (read_by ed q t f)
  hit-comes-back t r s e f l h =
      let w = h.word in
      read-record t r f (weight s) (hits_by q e) l (sized-whole q f h.size h.marks-size) (outside ed r (legal-sound ed r l).fit f s h.outside h.sync)
      (sym (hits-sent q f (word_of ed r) e (record-word ed r) w.places (w.hit ∙ ap (add e) (parts-frame ed r).word))) w.few

module _ (ed : Edition) where
  hit-some : (q : Marking) (r : Record) (s e : List Bool) → MarksSized q → length s ≡ 16 → weight s ≤ 3 → length e ≡ 187 → FewBy q (hits_by q e)
      → HitFrame ed q r s e (hit_frame ed r s e)
  unfolding hit_frame
  hit-some q r s e hm ns ks ne ke =
      let g = frame_of ed r in
      let f = hit_frame ed r s e in
      let x = take 1 (bits g) in
      let y = add s (sync_bits g) in
      let w = add e (protected g) in
      let z = drop 204 (bits g) in
      let lg : length (bits g) ≡ 208 = frame-bits g (length-frame ed r) in
      let lx : length x ≡ 1 = length_part 0 1 (bits g) (omega arith) in
      let ly : length y ≡ 16 = length-add s (sync_bits g) ∙ length_part 1 16 (bits g) (omega arith) in
      let lw : length w ≡ 187 = length-add e (protected g) ∙ length-protected g (length-frame ed r) in
      let b : bits f ≡ x ++ (y ++ (w ++ z)) =
      bits-bytes 26 (x ++ (y ++ (w ++ z)))
      (length-append x (y ++ (w ++ z)) ∙ omega (arith, length-append y (w ++ z), length-append w z, length-drop 204 (bits g))) in
      let size : length f ≡ 26 = length-bytes 26 (x ++ (y ++ (w ++ z))) in
      let p = frame-parts f x y w z size lx ly lw b in
      record {
        size = size;
        marks-size = hm;
        outside = record { reference = p.reference; filler = sym (filler-whole f size) ∙ p.filler };
        sync = record { places = ns; few = ks; hit = p.pattern };
        word = record { places = ne; few = ke; hit = p.word };
      }

  -- a record's own frame needs no repair
  own-dist : (r : Record) → dist (protected (frame_of ed r)) (word_of ed r) ≡ 0
  own-dist r = ap (λ (w : List Bool). dist w (word_of ed r)) (parts-frame ed r).word ∙ dist_same (word_of ed r)

  pub repair-own : (r : Record) → repair_of (frame_of ed r) ≡ repaired_to (word_of ed r) 0
  repair-own r =
      repair-found (frame_of ed r) (length-frame ed r) (word_of ed r) (record-word ed r) (omega (arith, own-dist r))
      ∙ ap (repaired_to (word_of ed r)) (own-dist r)

  pub comes_back : (t : Tuner) (r : Record) → Legal ed r → ComesBack r t 0 0 (read_of ed t (frame_of ed r))
  comes_back t r l =
      read-record ed unmarked t r (frame_of ed r) 0 0 l (sized-whole unmarked (frame_of ed r) (length-frame ed r) tt)
      (own-outside ed r (legal-sound ed r l).fit) (sym (own-dist r)) (omega arith)

  written_apart : (r s : Record) → Legal ed r → Legal ed s → frame_of ed r ≡ frame_of ed s → SameFields r s
  written_apart r s lr ls e =
      let a = comes_back None r lr in
      let b = comes_back None s ls in
      a.same ∙ ap reading_fields (sym a.accepted ∙ ap (read_of ed None) e ∙ b.accepted) ∙ sym b.same

-- ---- read and written

module _ (ed : Edition) (q : Marking) where
  module _ (f : List ℕ) (j : Judged ed q f) where
    -- what the frame says
    recorded : Record
    recorded = record_in ed (field_at f 0 1) j.pattern (word_bytes j.word)

    recorded_sync : Fitting (sync_bits f) j.pattern j.differing
    recorded_sync = pattern-test.fits-only (sync_bits f) j.pattern j.differing j.sync

    recorded-legal : Legal ed recorded
    unfolding recorded
    recorded-legal =
        read-legal ed j.word j.code-word j.tests (field_at f 0 1) j.pattern (value-take-lt 1 (drop 0 (bits f))) recorded_sync.pattern

    recorded-word : word_of ed recorded ≡ j.word
    unfolding recorded
    recorded-word = read_word ed j.word j.code-word j.tests (field_at f 0 1) j.pattern

    recorded-taken : (recorded.reference ≡ field_at f 0 1) × (recorded.pattern ≡ j.pattern)
    unfolding recorded
    recorded-taken =
        let c = word_bytes j.word in
        let y = taken (body_in ed c) (field_at f 0 1) j.pattern (identification_in c) (field_at c 19 2) (values_in ed c) in
        (y.reference, y.pattern)

    recorded-frame : frame_of ed recorded ≡ clean_by q f
    unfolding frame_of clean_by
    recorded-frame =
        let m = message_bits ed recorded in
        let p = parity_of m in
        let w : word_of ed recorded ≡ protected (repair_by q f).word =
        recorded-word
        ∙ sym (ap (λ (a : Answer). protected a.word) j.repaired ∙ protected-word_bytes j.word (length-word j.word j.code-word)) in
        ap₂ (λ (x y : ℕ). bytes 26 (bits_of 1 x ++ (pattern_bits y ++ (m ++ (p ++ zeros 4))))) recorded-taken.0
        (recorded-taken.1 ∙ sym (ap fitting_pattern j.sync))
        ∙ ap (λ (l : List Bool). bytes 26 (bits_of 1 (field_at f 0 1) ++ (pattern_bits (fitting_pattern (sync_in f)) ++ l)))
        (sym (append_assoc m p (zeros 4)) ∙ ap (◌++ zeros 4) w)

    recorded-mended : Mended q f (frame_of ed recorded) recorded.pattern j.places j.differing
    unfolding bits_of odd
    recorded-mended =
        let r = recorded in
        let b = bits f in
        let lb : length b ≡ 208 = frame-bits f (judged-size ed q f j) in
        let p = parts-frame ed r in
        let y = recorded_sync in
        let sync : differing_from j.pattern (sync_bits f) ≡ dist (sync_bits f) (sync_bits (frame_of ed r)) =
        differing-dist j.pattern (sync_bits f) ∙ ap (dist (sync_bits f)) (ap pattern_bits (sym recorded-taken.1) ∙ sym p.pattern) in
        let filler : take 4 (drop 204 b) ≡ zeros 4 = sym (part-bits 204 4 b (omega arith)) ∙ ap (bits_of 4) j.filler in
        record {
          size = length-frame ed r;
          outside =
              record {
                reference = p.reference ∙ ap (bits_of 1) recorded-taken.0 ∙ part-bits 0 1 b (omega arith);
                filler = sym (filler-whole (frame_of ed r) (length-frame ed r)) ∙ p.filler ∙ sym filler ∙ filler-whole f (judged-size ed q f j);
              };
          pattern = p.pattern;
          by-differing = record { count = y.differing ∙ sync; few = y.few };
          word = subst CodeWord (sym p.word) (record-word ed r);
          by-places =
              record { count = j.counted ∙ ap (λ (w : List Bool). hits_by q (add (protected f) w)) (sym (p.word ∙ recorded-word)); few = j.few };
        }

  -- what is known of an accepted frame: r is what it says, from the origin that was told and found
  record Known (t : Tuner) (f : List ℕ) (r : Record) (d : ℕ) : Type 0 where
    judged : Judged ed q f
    is : with_origin (record { tuner = t; repaired = judged.places }) (recorded f judged) ≡ r
    differing : judged.differing ≡ d

  pub refused-read : (t : Tuner) (f : List ℕ) → refusal_by ed q f ≢ 0 → read_by ed q t f ≡ Refused (refusal_by ed q f)
  unfolding read_by
  refused-read t f n = rw (ne_eqb (refusal_by ed q f) 0 n)

  known : (t : Tuner) (f : List ℕ) (r : Record) (d : ℕ) → read_by ed q t f ≡ Accepted r d → Known t f r d
  unfolding recorded
  known t f r d e = go (eqb (refusal_by ed q f) 0) refl
    where
      go : (b : Bool) → eqb (refusal_by ed q f) 0 ≡ b → Known t f r d
      go true y =
          let j = accepted-judged ed q f (eqb-true (refusal_by ed q f) 0 y) in
          let same = sym (judged-read ed q f j t) ∙ e in
          record { judged = j; is = cc; differing = cc }
      go false y =
          let same = sym (refused-read t f (eqb-false (refusal_by ed q f) 0 y)) ∙ e in
          let z : ◌≡◌ {A = ℕ} 0 1 = cc in absurd (omega arith)

  module _ (t : Tuner) (f : List ℕ) (r : Record) (d : ℕ) (e : read_by ed q t f ≡ Accepted r d) where
    -- where it came from, and what it says but for that
    read-origin : (r.origin.tuner ≡ t) × (r.origin.repaired ≡ (known t f r d e).judged.places)
    read-origin =
        let k = known t f r d e in
        let o : Origin = record { tuner = t; repaired = k.judged.places } in
        let own : r.origin ≡ o = ap (λ (y : Record). y.origin) (sym k.is) ∙ from-origin o (recorded f k.judged) in
        (ap (λ (p : Origin). p.tuner) own, ap (λ (p : Origin). p.repaired) own)

    read-is-legal : Legal ed r
    read-is-legal = let k = known t f r d e in subst (Legal ed) k.is (from-legal ed _ (recorded f k.judged) (recorded-legal f k.judged))

    written-again : frame_of ed r ≡ clean_by q f
    written-again =
        let k = known t f r d e in ap (frame_of ed) (sym k.is) ∙ from-frame ed _ (recorded f k.judged) ∙ recorded-frame f k.judged

    mended : Mended q f (clean_by q f) r.pattern r.origin.repaired d
    unfolding record_from
    mended =
        let k = known t f r d e in
        let j = k.judged in
        let pattern : (recorded f j).pattern ≡ r.pattern = ap (λ (y : Record). y.pattern) k.is in
        subst (λ (n : ℕ). Mended q f (clean_by q f) n r.origin.repaired d) pattern
        (subst (λ (n : ℕ). Mended q f (clean_by q f) (recorded f j).pattern n d) (sym read-origin.1)
        (subst (λ (n : ℕ). Mended q f (clean_by q f) (recorded f j).pattern j.places n) k.differing
        (subst (λ (g : List ℕ). Mended q f g (recorded f j).pattern j.places j.differing) (recorded-frame f j) (recorded-mended f j))))

    mended-read : (u : Tuner) → ComesBack r u 0 0 (read_of ed u (clean_by q f))
    mended-read u = subst (λ (g : List ℕ). ComesBack r u 0 0 (read_of ed u g)) written-again (comes_back ed u r read-is-legal)

    -- told another tuner
    other-tuner : (u : Tuner) → ComesBack r u r.origin.repaired d (read_by ed q u f)
    unfolding recorded
    other-tuner u =
        let k = known t f r d e in
        let j = k.judged in
        let b = back_from (recorded f j) u j.places j.differing (read_by ed q u f) (judged-read ed q f j u) in
        let same : SameFields r (recorded f j) = ap fields (sym k.is) ∙ from_fields _ (recorded f j) in
        record {
          back = b.back;
          accepted = b.accepted ∙ ap (Accepted b.back) k.differing;
          same = same ∙ b.same;
          tuner = b.tuner;
          repaired = b.repaired ∙ sym read-origin.1;
        }

    by_bit : (k : ℕ) → r.identification ≤ 3 → r.page ≡ 0 → k < 56 → warned_in r k ≡ not (get_or (bits (clean_by q f)) (56 + k) false)
    by_bit k w p h = warned-on-air ed r w p k h ∙ ap (λ (g : List ℕ). not (get_or (bits g) (56 + k) false)) written-again

    -- the record's identification is that of the repaired frame
    pub read-identification : r.identification ≡ identification_in (repair_by q f).word
    unfolding recorded record_from
    read-identification =
        let k = known t f r d e in
        let j = k.judged in
        let c = word_bytes j.word in
        sym (ap (λ (y : Record). y.identification) k.is)
        ∙ (taken (body_in ed c) (field_at f 0 1) j.pattern (identification_in c) (field_at c 19 2) (values_in ed c)).identification
        ∙ ap (λ (a : Answer). identification_in a.word) (sym j.repaired)

    accepted : refusal_by ed q f ≡ 0
    accepted = judged-accepted ed q f (known t f r d e).judged

    verdict : judge_by ed q f ≡ record { number = 0; repaired = r.origin.repaired }
    unfolding judge_by
    verdict = let n : places_by ed q f ≡ r.origin.repaired = judged-places ed q f (known t f r d e).judged ∙ sym read-origin.1 in rw (accepted, n)

  -- ---- refusal 3

  no-pattern : (f : List ℕ) → length f ≡ 26 → MarksSized q → field_at f 204 4 ≡ 0 → FarFromBoth (sync_bits f) → refusal_by ed q f ≡ 3
  unfolding refusal_by
  no-pattern f h hm z far =
      refusal-later 1 _ (ap not (sized-whole q f h hm))
      ∙ refusal-later 2 _ (ap not (eq-eqb (field_at f 204 4) 0 z))
      ∙ refusal-here 3 _ (ap (λ (y : Option Fit). not (eqb (sync_number y) 0)) (pattern-test.neither (sync_bits f) far))

  no-pattern-only : (f : List ℕ) → refusal_by ed q f ≡ 3 → FarFromBoth (sync_bits f)
  unfolding refusal_by
  no-pattern-only f e =
      let first : List (ℕ × Bool) = (1, not (whole q f)) ∷ (2, not (eqb (field_at f 204 4) 0)) ∷ [] in
      let later : List (ℕ × Bool) = (4, not (eqb (number_of (repair_by q f)) 0)) ∷ after_repair ed (repair_by q f).word in
      let n = sync_number (sync_in f) in
      let given : not (eqb n 0) ≡ true = refusal-met first later 3 (not (eqb n 0)) (omega arith) refl refl e in
      pattern-test.neither-only (sync_bits f) (fitting-none (sync_in f) (eqb-false n 0 (not-true (eqb n 0) given)))

  -- ---- judged and read

  judged : (t : Tuner) (f : List ℕ) → ((judge_by ed q f).number ≡ reading_number (read_by ed q t f)) × ((judge_by ed q f).repaired ≡ reading_places (read_by ed q t f))
  unfolding judge_by read_by places_by record_from
  judged t f = go (eqb (refusal_by ed q f) 0) refl
    where
      go : (b : Bool) → eqb (refusal_by ed q f) 0 ≡ b → ((judge_by ed q f).number ≡ reading_number (read_by ed q t f)) × ((judge_by ed q f).repaired ≡ reading_places (read_by ed q t f))
      go true y = rw (eqb-true (refusal_by ed q f) 0 y) (refl, refl)
      go false y = rw y (refl, refl)

  judged-refused : (t : Tuner) (f : List ℕ) (n : ℕ) → read_by ed q t f ≡ Refused n → (n ≢ 0) × (judge_by ed q f ≡ record { number = n; repaired = 0 })
  unfolding judge_by places_by
  judged-refused t f n e = go (eqb (refusal_by ed q f) 0) refl
    where
      go : (b : Bool) → eqb (refusal_by ed q f) 0 ≡ b → (n ≢ 0) × (judge_by ed q f ≡ record { number = n; repaired = 0 })
      go true y =
          let same = sym (judged-read ed q f (accepted-judged ed q f (eqb-true (refusal_by ed q f) 0 y)) t) ∙ e in
          let z : ◌≡◌ {A = ℕ} 0 1 = cc in absurd (omega arith)
      go false y =
          let ne = eqb-false (refusal_by ed q f) 0 y in
          let same = sym (refused-read t f ne) ∙ e in
          let number : refusal_by ed q f ≡ n = cc in
          (λ z. ne (number ∙ z), rw (y, number))

  number-told : (t : Tuner) (f : List ℕ) → reading_number (read_by ed q t f) ≡ refusal_by ed q f
  unfolding judge_by
  number-told t f = sym (judged t f).0

  other-refused : (t u : Tuner) (f : List ℕ) (n : ℕ) → read_by ed q t f ≡ Refused n → read_by ed q u f ≡ Refused n
  other-refused t u f n e =
      let number : refusal_by ed q f ≡ n = sym (number-told t f) ∙ ap reading_number e in
      refused-read u f (λ z. (judged-refused t f n e).0 (sym number ∙ z)) ∙ ap Refused number

module _ (ed : Edition) where
  bytes-frame : (r : Record) → Bytes (frame_of ed r)
  unfolding frame_of
  bytes-frame r = bytes-Bytes 26 _

  undamaged : (t : Tuner) (f : List ℕ) (r : Record) → Bytes f → read_of ed t f ≡ Accepted r 0 → r.origin.repaired ≡ 0 → frame_of ed r ≡ f
  undamaged t f r h e none =
      let m = mended ed unmarked t f r 0 e in
      let g = clean_of f in
      let lf = judged-size ed unmarked f (known ed unmarked t f r 0 e).judged in
      let lb : length (bits f) ≡ 208 = frame-bits f lf in
      let lc : length (bits g) ≡ 208 = frame-bits g m.size in
      let s : sync_bits g ≡ sync_bits f =
      sym (dist-none (sync_bits f) (sync_bits g) (length_part 1 16 (bits f) (omega arith) ∙ sym (length_part 1 16 (bits g) (omega arith))) (sym m.by-differing.count)) in
      let w : protected g ≡ protected f =
      sym (dist-none (protected f) (protected g) (length-protected f lf ∙ sym (length-protected g m.size)) (sym m.by-places.count ∙ none)) in
      let b : bits g ≡ bits f =
      frame-split g m.size
      ∙ ap₂ (λ (x y : List Bool). x ++ (y ++ (protected g ++ take 4 (drop 204 (bits g))))) m.outside.reference s
      ∙ ap₂ (λ (x y : List Bool). take 1 (bits f) ++ (sync_bits f ++ (x ++ take 4 y))) w m.outside.filler
      ∙ sym (frame-split f lf) in
      written-again ed unmarked t f r 0 e ∙ bits-inj g f (subst Bytes (written-again ed unmarked t f r 0 e) (bytes-frame r)) h (m.size ∙ sym lf) b

  pub demand2 : Demand2 ed
  demand2 =
      record {
        comes_back = comes_back ed;
        hit-comes-back = hit-comes-back ed;
        told = λ t r l. told_back _ _ _ _ _ (comes_back ed t r l);
        hit-told = λ q t r s e f l h. told_back _ _ _ _ _ (hit-comes-back ed q t r s e f l h);
        hit-some = hit-some ed;
        number-told = number-told ed;
        refused-told = λ q t f n. told-as _ _ (refused-read ed q t f n);
        no-pattern = no-pattern ed;
        no-pattern-only = no-pattern-only ed;
        written-again = written-again ed;
        mended = mended ed;
        undamaged = undamaged;
        mended-read = λ q t u f r d e. mended-read ed q t f r d e u;
        read-legal = read-is-legal ed;
        written_apart = written_apart ed;
        judged = judged ed;
        judged-accepted = verdict ed;
        judged-refused = judged-refused ed;
        legal-exactly = legal-exactly ed;
        written = written ed;
        unchanged = unchanged ed;
      }

  pub areas-on-air : AreasOnAir ed
  areas-on-air = record { by_bit = λ q t f r d k e. by_bit ed q t f r d e k; tokyo = λ q t f r d e w p. by_bit ed q t f r d e 15 w p (omega arith) }

  pub origins : Origins ed
  origins =
      record {
        tuner-told = λ q t f r d e. (read-origin ed q t f r d e).0;
        other-tuner = λ q t u f r d e. other-tuner ed q t f r d e u;
        other-refused = other-refused ed;
        same-legal = same-legal ed;
        same-written = same-written ed;
      }

-- ---- the same fields

pub same-records : SameRecords
same-records = record { same_whole = same_whole; same_some = λ o r. (sym (from_fields o r), from-origin o r); same-warned = same-warned }

-- ---- the bit numbers

pub bit-numbers : BitNumbers
unfolding row
bit-numbers = record { area = refl; place = refl; cancel = refl; safety-information = refl; no-information = refl; ends = λ b. ap (24 +◌) (layout-sum b) }
