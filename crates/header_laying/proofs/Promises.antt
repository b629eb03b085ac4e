-- The promises of laying in and taking out hold. Assumes nothing.
use mathlib.Core.Path.{◌≡◌, refl, sym, ap, ap₂, ◌∙◌, subst}
use mathlib.Core.Bool.{Bool, true, false, cond}
use mathlib.Core.Logic.{◌≢◌}
use mathlib.Core.List.{List, [], ◌++◌}
use Prim.Native.Nat.{ℕ}
use native.Mathlib.Omega.{arith}
use lib.Dec.{eqb}
use lib.ListN.{length, take, drop, replicate, length-drop, length-replicate, take-append-drop}
use lib.Seq.{take_all, length-take-le}
use borrow.Author.Tests.{eq-eqb, ne_eqb, eqb-true, eqb-false}
use Rattle.bits.specs.Bits.{digit, odd, value, bits_of, bits, bytes, Bytes}
use Rattle.bits.specs.Refusal.{first_refusal, or_else}
use Rattle.bits.proofs.Bits.{length-bits, length-bytes, bytes-bits, bytes-Bytes}
use Rattle.gf2.specs.Polynomial.{zeros, add}
use Rattle.sync_pattern.specs.Pattern.{pattern_bits, differing_from, sync_of}
use Rattle.dsc.specs.Marks.{Marking, unmarked, repair_by}
use Rattle.frame.specs.Read.{identification_in, refusal_by, judge_by, read_by, read_of, clean_by, cleaned_by, clean_of}
use Rattle.frame.specs.Promises.{NotSafety, ComesBack, SameAnswers}
use Rattle.frame.specs.declared.Edition.{Edition}
use Rattle.frame.specs.Write.{frame_of, Legal}
use Rattle.frame.specs.declared.Tuner.{Tuner}
use Rattle.frame.specs.declared.Tuner.TheVariants.{None}
use Rattle.frame.specs.declared.Record.{Record}
use Rattle.frame.specs.declared.Verdict.{Verdict}
use Rattle.frame.specs.declared.Cleaned.{Cleaned}
use Rattle.frame.specs.declared.Reading.TheVariants.{Accepted}
use Rattle.frame.proofs.Parts.{take-drop-take}
use Rattle.frame.proofs.Frames.{parts-frame}
use Rattle.frame.proofs.Origins.{same-frame}
use Rattle.frame.proofs.Promises as frame
use Rattle.frame.proofs.Editions.{editions}
use Rattle.header.specs.Header.{front_in, header_refusal}
use Rattle.header.proofs.Headers as headers
use Rattle.header_laying.specs.Laying.{ac_bits, with_ac, repaired_bits, lay_in_number, lay_in_of, take_out_of}
use Rattle.header_laying.specs.Promises.{SameOutsideAc, Laying, TakingOut}
use Rattle.header_laying.proofs.Laying.{with_ac-bits, with_ac-front_in, with_ac-outside, with_ac-again, with_ac-accepted, with_ac-own}

-- a header that is changed only where nothing is refused
changed : (P : List ℕ → Type 0) (n : ℕ) (x y : List ℕ) → (n ≡ 0 → P x) → P y → P (cond (eqb n 0) x y)
changed P n x y f p = go (eqb n 0) refl
  where
    go : (t : Bool) → eqb n 0 ≡ t → P (cond t x y)
    go true e = f (eqb-true n 0 e)
    go false e = p

none-refused : (m n : ℕ) → or_else m n ≡ 0 → (m ≡ 0) × (n ≡ 0)
none-refused m n e = go (eqb m 0) refl e
  where
    go : (t : Bool) → eqb m 0 ≡ t → cond t n m ≡ 0 → (m ≡ 0) × (n ≡ 0)
    go true q z = (eqb-true m 0 q, z)
    go false q z = absurd (eqb-false m 0 q z)

pub taken-with : (h : List ℕ) → header_refusal h ≡ 0 → take_out_of h ≡ with_ac h (replicate 204 true)
unfolding take_out_of
taken-with h e = ap (λ (t : Bool). cond t (with_ac h (replicate 204 true)) h) (eq-eqb (header_refusal h) 0 e)

taken-unchanged : (h : List ℕ) → header_refusal h ≢ 0 → take_out_of h ≡ h
unfolding take_out_of
taken-unchanged h n = rw (ne_eqb (header_refusal h) 0 n)

-- the 204 bits that are laid in
pub length-clean : (q : Marking) (f : List ℕ) → length (clean_by q f) ≡ 26
unfolding clean_by
length-clean q f = length-bytes 26 _

Bytes-clean : (q : Marking) (f : List ℕ) → Bytes (clean_by q f)
unfolding clean_by
Bytes-clean q f = bytes-Bytes 26 _

first-204 : (g : List ℕ) → length g ≡ 26 → length (take 204 (bits g)) ≡ 204
first-204 g h = length-take-le 204 (bits g) (omega (arith, length-bits g))

length-repaired : (q : Marking) (f : List ℕ) → length (repaired_bits q f) ≡ 204
length-repaired q f = first-204 (clean_by q f) (length-clean q f)

length-ones : length (replicate 204 true) ≡ 204
length-ones = length-replicate 204 true

pub size : (h : List ℕ) → header_refusal h ≡ 0 → length h ≡ 188
size h e = (headers.accepted h e).size

-- with other AC bits an accepted header is accepted
accepted-with : (h : List ℕ) (bs : List Bool) → length bs ≡ 204 → header_refusal h ≡ 0 → header_refusal (with_ac h bs) ≡ 0
accepted-with h bs l e = headers.accepts (with_ac h bs) (with_ac-accepted h bs l (headers.accepted h e))

unchanged-outside : (h : List ℕ) → SameOutsideAc h h
unchanged-outside h = record { size = refl; front = refl; rest = refl }

taken-outside : (h : List ℕ) → SameOutsideAc (take_out_of h) h
unfolding take_out_of
taken-outside h =
    changed (λ (k : List ℕ). SameOutsideAc k h) (header_refusal h) (with_ac h (replicate 204 true)) h
    (λ e. with_ac-outside h (replicate 204 true) (size h e) length-ones) (unchanged-outside h)

taken-accepted : (h : List ℕ) → header_refusal h ≡ 0 → header_refusal (take_out_of h) ≡ 0
taken-accepted h e = ap header_refusal (taken-with h e) ∙ accepted-with h (replicate 204 true) length-ones e

taken-bits : (h : List ℕ) → header_refusal h ≡ 0 → ac_bits (take_out_of h) ≡ replicate 204 true
taken-bits h e = ap ac_bits (taken-with h e) ∙ with_ac-bits h (replicate 204 true) (size h e) length-ones

pub taking-out : TakingOut
taking-out =
    record { taken-accepted = taken-accepted; taken-bits = taken-bits; taken-outside = taken-outside; taken-unchanged = taken-unchanged }

-- ---- laying in

-- an empty header is refused with 1 and 26 zero bytes with 3: the answer is the header's number
both-refused : (ed : Edition) → lay_in_number ed unmarked [] (replicate 26 0) ≡ 1
unfolding lay_in_number header_refusal refusal_by first_refusal sync_of differing_from add bits bits_of odd value digit
both-refused ed = refl

module _ (ed : Edition) (q : Marking) where
  module _ (h f : List ℕ) where
    laid_none : lay_in_number ed q h f ≡ 0 → (header_refusal h ≡ 0) × (refusal_by ed q f ≡ 0)
    unfolding lay_in_number
    laid_none e = none-refused (header_refusal h) (refusal_by ed q f) e

    header-first : header_refusal h ≢ 0 → lay_in_number ed q h f ≡ header_refusal h
    unfolding lay_in_number
    header-first n = rw (ne_eqb (header_refusal h) 0 n)

    then-frame : header_refusal h ≡ 0 → lay_in_number ed q h f ≡ refusal_by ed q f
    unfolding lay_in_number
    then-frame e = rw e

    pub laid-with : lay_in_number ed q h f ≡ 0 → lay_in_of ed q h f ≡ with_ac h (repaired_bits q f)
    unfolding lay_in_of
    laid-with e = ap (λ (t : Bool). cond t (with_ac h (repaired_bits q f)) h) (eq-eqb (lay_in_number ed q h f) 0 e)

    laid-unchanged : lay_in_number ed q h f ≢ 0 → lay_in_of ed q h f ≡ h
    unfolding lay_in_of
    laid-unchanged n = rw (ne_eqb (lay_in_number ed q h f) 0 n)

  module _ (h f : List ℕ) (e : lay_in_number ed q h f ≡ 0) where
    header-accepted : header_refusal h ≡ 0
    header-accepted = (laid_none h f e).0

    laid-accepted : header_refusal (lay_in_of ed q h f) ≡ 0
    laid-accepted = ap header_refusal (laid-with h f e) ∙ accepted-with h (repaired_bits q f) (length-repaired q f) header-accepted

    laid-bits : ac_bits (lay_in_of ed q h f) ≡ repaired_bits q f
    laid-bits = ap ac_bits (laid-with h f e) ∙ with_ac-bits h (repaired_bits q f) (size h header-accepted) (length-repaired q f)

    taken-laid : take_out_of (lay_in_of ed q h f) ≡ take_out_of h
    taken-laid =
        taken-with (lay_in_of ed q h f) laid-accepted
        ∙ ap (λ (x : List ℕ). with_ac x (replicate 204 true)) (laid-with h f e)
        ∙ with_ac-again h (repaired_bits q f) (size h header-accepted) (length-repaired q f) (replicate 204 true)
        ∙ sym (taken-with h header-accepted)

    back-again : Bytes h → ac_bits h ≡ replicate 204 true → take_out_of (lay_in_of ed q h f) ≡ h
    back-again b o =
        taken-laid ∙ taken-with h header-accepted ∙ ap (with_ac h) (sym o) ∙ with_ac-own h b (headers.accepted h header-accepted)

  laid-outside : (h f : List ℕ) → SameOutsideAc (lay_in_of ed q h f) h
  unfolding lay_in_of
  laid-outside h f =
      changed (λ (k : List ℕ). SameOutsideAc k h) (lay_in_number ed q h f) (with_ac h (repaired_bits q f)) h
      (λ e. with_ac-outside h (repaired_bits q f) (size h (header-accepted h f e)) (length-repaired q f)) (unchanged-outside h)

  laid-front : (h f : List ℕ) → front_in (lay_in_of ed q h f) ≡ front_in h
  unfolding lay_in_of
  laid-front h f =
      changed (λ (k : List ℕ). front_in k ≡ front_in h) (lay_in_number ed q h f) (with_ac h (repaired_bits q f)) h
      (λ e. with_ac-front_in h (repaired_bits q f) (size h (header-accepted h f e)) (length-repaired q f)) refl

  -- the repaired bits and the filler are the repaired frame
  repaired-frame : (f : List ℕ) (r : Record) → frame_of ed r ≡ clean_by q f → bytes 26 (repaired_bits q f ++ zeros 4) ≡ clean_by q f
  repaired-frame f r e =
      let b = bits (clean_by q f) in
      let l : length (drop 204 b) ≡ 4 = length-drop 204 b ∙ omega (arith, length-bits (clean_by q f), length-clean q f) in
      let filler : zeros 4 ≡ drop 204 b =
      sym (subst (λ (g : List ℕ). take 4 (drop 204 (bits g)) ≡ zeros 4) e (parts-frame ed r).filler) ∙ take_all 4 (drop 204 b) (omega arith) in
      ap (λ (x : List Bool). bytes 26 (take 204 b ++ x)) filler
      ∙ ap₂ bytes (sym (length-clean q f)) (take-append-drop 204 b)
      ∙ bytes-bits (clean_by q f) (Bytes-clean q f)

  frame-accepted : (t : Tuner) (f : List ℕ) (r : Record) (d : ℕ) → read_by ed q t f ≡ Accepted r d → refusal_by ed q f ≡ 0
  unfolding judge_by
  frame-accepted t f r d e = ap (λ (v : Verdict). v.number) ((frame.demand2 ed).judged-accepted q t f r d e)

  laid-read : (t u : Tuner) (h f : List ℕ) (r : Record) (d : ℕ) → header_refusal h ≡ 0 → read_by ed q t f ≡ Accepted r d
      → ComesBack r u 0 0 (read_of ed u (bytes 26 (ac_bits (lay_in_of ed q h f) ++ zeros 4)))
  laid-read t u h f r d e a =
      let n : lay_in_number ed q h f ≡ 0 = then-frame h f e ∙ frame-accepted t f r d a in
      let laid : clean_by q f ≡ bytes 26 (ac_bits (lay_in_of ed q h f) ++ zeros 4) =
      sym
      (ap (λ (x : List Bool). bytes 26 (x ++ zeros 4)) (laid-bits h f n)
      ∙ repaired-frame f r ((frame.demand2 ed).written-again q t f r d a)) in
      subst (λ (g : List ℕ). ComesBack r u 0 0 (read_of ed u g)) laid ((frame.demand2 ed).mended-read q t u f r d a)

  laid-pattern : (t : Tuner) (h f : List ℕ) (r : Record) (d : ℕ) → header_refusal h ≡ 0 → read_by ed q t f ≡ Accepted r d
      → take 16 (drop 1 (ac_bits (lay_in_of ed q h f))) ≡ pattern_bits r.pattern
  laid-pattern t h f r d e a =
      let n : lay_in_number ed q h f ≡ 0 = then-frame h f e ∙ frame-accepted t f r d a in
      ap (λ (x : List Bool). take 16 (drop 1 x)) (laid-bits h f n)
      ∙ take-drop-take 16 1 204 (bits (clean_by q f)) (omega arith)
      ∙ ((frame.demand2 ed).mended q t f r d a).pattern

  alike : (other : Edition) (h f : List ℕ) → NotSafety (identification_in (repair_by q f).word)
      → (lay_in_number ed q h f ≡ lay_in_number other q h f) × (lay_in_of ed q h f ≡ lay_in_of other q h f)
  unfolding lay_in_number lay_in_of judge_by
  alike other h f n =
      let same : refusal_by ed q f ≡ refusal_by other q f = ap (λ (v : Verdict). v.number) (editions.frame-alike ed other q f n).judged in
      rw same (refl, refl)

-- laying in twice is laying in the second, whether the frames come with marks or not
laid-twice : (ed : Edition) (q p : Marking) (h f g : List ℕ) → lay_in_number ed q h f ≡ 0 → refusal_by ed p g ≡ 0 → lay_in_of ed p (lay_in_of ed q h f) g ≡ lay_in_of ed p h g
laid-twice ed q p h f g e k =
    let a = header-accepted ed q h f e in
    laid-with ed p (lay_in_of ed q h f) g (then-frame ed p (lay_in_of ed q h f) g (laid-accepted ed q h f e) ∙ k)
    ∙ ap (λ (x : List ℕ). with_ac x (repaired_bits p g)) (laid-with ed q h f e)
    ∙ with_ac-again h (repaired_bits q f) (size h a) (length-repaired q f) (repaired_bits p g)
    ∙ sym (laid-with ed p h g (then-frame ed p h g a ∙ k))

-- frames that are answered alike are laid in alike
laid_same : (ed : Edition) (q p : Marking) (h f g : List ℕ) → SameAnswers ed q f ed p g
    → (lay_in_number ed q h f ≡ lay_in_number ed p h g) × (lay_in_of ed q h f ≡ lay_in_of ed p h g)
unfolding lay_in_number judge_by cleaned_by
laid_same ed q p h f g same = (ap (or_else (header_refusal h)) number, go (eqb (lay_in_number ed q h f) 0) refl)
  where
    number : refusal_by ed q f ≡ refusal_by ed p g
    number = ap (λ (v : Verdict). v.number) same.judged

    cleaned : refusal_by ed q f ≡ 0 → clean_by q f ≡ clean_by p g
    cleaned e =
        ap (λ (t : Bool). cond t (clean_by q f) (replicate 26 0)) (sym (eq-eqb (refusal_by ed q f) 0 e))
        ∙ ap (λ (c : Cleaned). c.frame) same.cleaned
        ∙ ap (λ (t : Bool). cond t (clean_by p g) (replicate 26 0)) (eq-eqb (refusal_by ed p g) 0 (sym number ∙ e))

    go : (t : Bool) → eqb (lay_in_number ed q h f) 0 ≡ t → lay_in_of ed q h f ≡ lay_in_of ed p h g
    go true y =
        let z = eqb-true (lay_in_number ed q h f) 0 y in
        laid-with ed q h f z
        ∙ ap (λ (c : List ℕ). with_ac h (take 204 (bits c))) (cleaned (laid_none ed q h f z).1)
        ∙ sym (laid-with ed p h g (sym (ap (or_else (header_refusal h)) number) ∙ z))
    go false y =
        let z = eqb-false (lay_in_number ed q h f) 0 y in
        laid-unchanged ed q h f z ∙ sym (laid-unchanged ed p h g (λ e. z (ap (or_else (header_refusal h)) number ∙ e)))

-- an undamaged frame is laid in as it stands
pub laid-own : (ed : Edition) (h : List ℕ) (r : Record) → header_refusal h ≡ 0 → Legal ed r
    → lay_in_of ed unmarked h (frame_of ed r) ≡ with_ac h (take 204 (bits (frame_of ed r)))
laid-own ed h r e l =
    let f = frame_of ed r in
    let b = (frame.demand2 ed).comes_back None r l in
    let own : clean_of f ≡ f =
    sym ((frame.demand2 ed).written-again unmarked None f b.back 0 b.accepted) ∙ same-frame ed b.back r (sym b.same) in
    laid-with ed unmarked h f (then-frame ed unmarked h f e ∙ frame-accepted ed unmarked None f b.back 0 b.accepted)
    ∙ ap (λ (g : List ℕ). with_ac h (take 204 (bits g))) own

pub laying : (ed : Edition) (q : Marking) → Laying ed q
laying ed q =
    record {
      laid-accepted = laid-accepted ed q;
      laid-bits = laid-bits ed q;
      laid-read = laid-read ed q;
      laid-pattern = laid-pattern ed q;
      laid-outside = laid-outside ed q;
      laid-front = laid-front ed q;
      laid-twice = laid-twice ed q;
      taken-laid = taken-laid ed q;
      back-again = λ h f b o e. back-again ed q h f e b o;
      header-first = header-first ed q;
      then-frame = then-frame ed q;
      laid-unchanged = laid-unchanged ed q;
      laid_same = laid_same ed q;
      laid-alike = alike ed q;
    }
