-- The tests before and after the repair, from the fields that code reads. Assumes nothing.
use mathlib.Core.Path.{◌≡◌, refl, sym, ap, ap₂, ◌∙◌, subst}
use mathlib.Core.Bool.{Bool, true, false, cond, not}
use mathlib.Core.List.{List}
use Prim.Native.Nat.{ℕ, ◌-◌, ◌<◌}
use native.Mathlib.Omega.{arith}
use lib.Dec.{eqb}
use lib.ListN.{length, take, drop, length-drop}
use lib.Seq.{take_all}
use borrow.Author.Tests.{eq-eqb, ne_eqb, eqb-true, eqb-false}
use Rattle.bits.specs.Bits.{bits, bits_of}
use Rattle.bits.specs.Field.{field_at, within, get_of}
use Rattle.bits.specs.Segment.{fixed_bits_hold}
use Rattle.bits.specs.Refusal.{first_refusal}
use Rattle.bits.proofs.Bits.{bits-drop}
use Rattle.bits.proofs.Refusal.{Tested, end, met, unmet, tested}
use Rattle.crc.specs.Crc.{crc10_of}
use Rattle.dsc.specs.Marks.{unmarked}
use Rattle.std.specs.Prelude.{Option, None}
use Rattle.sync_pattern.specs.Pattern.{fit_with, sync_of, sync_number, fitting_pattern, fitting_differing}
use Rattle.sync_pattern.specs.declared.Fit.{Fit}
use Rattle.frame.specs.Identification.{class_of, flags_wrong, is_undefined}
use Rattle.frame.specs.Body.{body_of, layout}
use Rattle.frame.specs.Fields.{over_limit}
use Rattle.frame.specs.Read.{class_in, body_in, details_in, record_in, sync_in, before_repair, after_repair}
use Rattle.frame_refusals.specs.Preamble.{preamble_of}
use Rattle.frame_refusals.specs.Word.{word_details, Tells}
use Rattle.frame_details.specs.Details.{details_of}
use Rattle.frame.specs.declared.Edition.{Edition}
use Rattle.frame.specs.declared.Class.{Class}
use Rattle.frame.specs.declared.Body.{Body}
use Rattle.frame_details.specs.declared.Details.{Details}
use Rattle.frame_refusals.specs.declared.Preamble.{Preamble}
use Rattle.frame_refusals.specs.declared.Preamble.TheVariants.{Passed, Refused}
use Rattle.frame.proofs.Parts.{part-bits, frame-bits}
use Rattle.frame.proofs.Bodies.{taken}

-- a field that lies in 26 bytes
pub got : (s : List ℕ) (k w n : ℕ) → length s ≡ 26 → within 26 k w ≡ true → n ≡ get_of s k w → n ≡ field_at s k w
got s k w n h t e =
    e ∙ ap (λ m. cond (within m k w) (field_at s k w) 0) h ∙ ap (λ b. cond b (field_at s k w) 0) t

-- ---- before the repair

module _ (f : List ℕ) where
  refused-with : (n : ℕ) → 0 < n → n ≡ first_refusal (before_repair unmarked f) → Refused n ≡ preamble_of f
  unfolding preamble_of
  refused-with n p e = rw (sym e, ne_eqb n 0 (λ z. omega arith))

  pub preamble-short : (length f ≡ 26 → ⊥) → Refused 1 ≡ preamble_of f
  preamble-short n = refused-with 1 (omega arith) (tested (met (ap not (ne_eqb (length f) 26 n))))

  module _ (h : length f ≡ 26) (filler : ℕ) (ef : filler ≡ get_of f 204 4) where
    field-filler : filler ≡ field_at f 204 4
    field-filler = got f 204 4 filler h refl ef

    pub preamble-filler : (filler ≡ 0 → ⊥) → Refused 2 ≡ preamble_of f
    preamble-filler n =
        refused-with 2 (omega arith)
        (tested
        (unmet (ap not (eq-eqb (length f) 26 h))
        (met (ap not (ne_eqb (field_at f 204 4) 0 (λ z. n (field-filler ∙ z)))))))

    module _ (z : filler ≡ 0) (n : ℕ) (en : n ≡ get_of f 1 16) (y : Option Fit) (ey : y ≡ sync_of (bits_of 16 n)) where
      -- B1 to B16 are the bits of the number that was read there
      read-sync : y ≡ sync_in f
      read-sync = ey ∙ ap sync_of (ap (bits_of 16) (got f 1 16 n h refl en) ∙ part-bits 1 16 (bits f) (omega (arith, frame-bits f h)))

      past-filler : {k : ℕ} → Tested (drop 2 (before_repair unmarked f)) k → k ≡ first_refusal (before_repair unmarked f)
      past-filler t =
          tested (unmet (ap not (eq-eqb (length f) 26 h)) (unmet (ap not (eq-eqb (field_at f 204 4) 0 (sym field-filler ∙ z))) t))

      by_answer : {z : Option Fit} → sync_in f ≡ z → not (eqb (sync_number (sync_in f)) 0) ≡ not (eqb (sync_number z) 0)
      by_answer e = ap (λ (s : Option Fit). not (eqb (sync_number s) 0)) e

      pub preamble-neither : y ≡ None → Refused 3 ≡ preamble_of f
      preamble-neither e = refused-with 3 (omega arith) (past-filler (met (by_answer (sym read-sync ∙ e))))

      pub preamble-fits : (x p d : ℕ) → x ≡ get_of f 0 1 → y ≡ fit_with p d → Passed x p d ≡ preamble_of f
      unfolding preamble_of
      preamble-fits x p d ex e =
          let s : sync_in f ≡ fit_with p d = sym read-sync ∙ e in
          rw (sym (past-filler (unmet (by_answer s) end)), s, got f 0 1 x h refl ex)

-- ---- what they said

-- nothing is refused, and these stand before the word
pub record PreamblePassed (f : List ℕ) (x p d : ℕ) : Type 0 where
  pub none : first_refusal (before_repair unmarked f) ≡ 0
  pub reference : x ≡ field_at f 0 1
  pub pattern : p ≡ fitting_pattern (sync_in f)
  pub differing : d ≡ fitting_differing (sync_in f)

-- or the answer is a number, which is not 0
pub record PreambleRefused (f : List ℕ) (n : ℕ) : Type 0 where
  pub number : n ≡ first_refusal (before_repair unmarked f)
  pub some : n ≡ 0 → ⊥

-- what an answer says
SaidIn : List ℕ → Preamble → Type 0
SaidIn f (Passed x p d) = PreamblePassed f x p d
SaidIn f (Refused n) = PreambleRefused f n

said : (f : List ℕ) → SaidIn f (preamble_of f)
unfolding preamble_of SaidIn
said f = go (eqb (first_refusal (before_repair unmarked f)) 0) refl
  where
    m : ℕ
    m = first_refusal (before_repair unmarked f)

    go : (t : Bool) → eqb m 0 ≡ t → SaidIn f (cond t (Passed (field_at f 0 1) (fitting_pattern (sync_in f)) (fitting_differing (sync_in f))) (Refused m))
    go true q = record { none = eqb-true m 0 q; reference = refl; pattern = refl; differing = refl }
    go false q = record { number = refl; some = eqb-false m 0 q }

pub preamble-passed : (f : List ℕ) (x p d : ℕ) → preamble_of f ≡ Passed x p d → PreamblePassed f x p d
unfolding SaidIn
preamble-passed f x p d e = subst (SaidIn f) e (said f)

pub preamble-number : (f : List ℕ) (n : ℕ) → preamble_of f ≡ Refused n → PreambleRefused f n
unfolding SaidIn
preamble-number f n e = subst (SaidIn f) e (said f)

-- ---- the repaired frame

-- 11 bytes of it are the details
details-bits : (c : List ℕ) → length c ≡ 26 → take 88 (bits (take (length c - 3) (drop 3 c))) ≡ details_in c
details-bits c h =
    ap (λ (l : List ℕ). take 88 (bits l)) (take_all (length c - 3) (drop 3 c) (omega (arith, length-drop 3 c))) ∙ ap (take 88) (sym (bits-drop 3 c (omega arith)))

module _ (ed : Edition) where
  module _ (c : List ℕ) (h : length c ≡ 26) where
    pub class-in : (i : ℕ) (k : Class) → i ≡ get_of c 21 3 → k ≡ class_of ed i → k ≡ class_in ed c
    class-in i k ei ek = ek ∙ ap (class_of ed) (got c 21 3 i h refl ei)

    pub body-in : (i page kind : ℕ) (k : Class) → i ≡ get_of c 21 3 → k ≡ class_of ed i → page ≡ get_of c 55 1 → kind ≡ get_of c 67 1 → body_of k page kind ≡ body_in ed c
    body-in i page kind k ei ek ep en = rw (class-in i k ei ek, got c 55 1 page h refl ep, got c 67 1 kind h refl en)

    pub details-in : (x p i u : ℕ) (b : Body) (d : Details) → b ≡ body_in ed c → i ≡ get_of c 21 3 → u ≡ get_of c 19 2
        → d ≡ details_of b x p i u (take 88 (bits (take (length c - 3) (drop 3 c)))) → d ≡ word_details ed x p c
    details-in x p i u b d eb ei eu e =
        e ∙ rw (eb, got c 21 3 i h refl ei, got c 19 2 u h refl eu, details-bits c h)

  -- ---- what the tests ask of the details

  pub contents-in : (c : List ℕ) (d : Details) (x p : ℕ) → d ≡ word_details ed x p c → d.contents ≡ record_in ed x p c
  unfolding details_of
  contents-in c d x p e = ap (λ (k : Details). k.contents) e

  pub tells : (c : List ℕ) (d : Details) (x p : ℕ) → d ≡ word_details ed x p c → Tells ed c d
  unfolding details_of
  tells c d x p e =
      record {
        fixed = ap (λ (k : Details). k.holds) e;
        latitude = ap (λ (k : Details). k.contents.latitude) e ∙ (taken (body_in ed c) x p _ _ _).latitude;
        longitude = ap (λ (k : Details). k.contents.longitude) e ∙ (taken (body_in ed c) x p _ _ _).longitude;
      }

  -- ---- after the repair, each test met or left

  module _ (c : List ℕ) (h : length c ≡ 26) (d : Details) (t : Tells ed c d) (differs : Bool)
      (e5 : differs ≡ not (eqb (field_at c 112 10) (crc10_of (take 91 (drop 21 (bits c)))))) where
    pub crc-refused : differs ≡ true → 5 ≡ first_refusal (after_repair ed c)
    crc-refused m = tested (met (sym e5 ∙ m))

    module _ (z5 : differs ≡ false) (i : ℕ) (k : Class) (undefined : Bool) (ei : i ≡ get_of c 21 3) (ek : k ≡ class_of ed i) (e6 : undefined ≡ is_undefined k) where
      past-crc : {n : ℕ} → Tested (drop 1 (after_repair ed c)) n → n ≡ first_refusal (after_repair ed c)
      past-crc a = tested (unmet (sym e5 ∙ z5) a)

      test6 : is_undefined (class_in ed c) ≡ undefined
      test6 = sym (e6 ∙ ap is_undefined (class-in c h i k ei ek))

      pub undefined-refused : undefined ≡ true → 6 ≡ first_refusal (after_repair ed c)
      undefined-refused m = past-crc (met (test6 ∙ m))

      module _ (z6 : undefined ≡ false) (s u : ℕ) (wrong : Bool) (es : s ≡ get_of c 17 2) (eu : u ≡ get_of c 19 2) (e7 : wrong ≡ flags_wrong k s u) where
        test7 : flags_wrong (class_in ed c) (field_at c 17 2) (field_at c 19 2) ≡ wrong
        test7 =
            sym
            (e7 ∙ ap (λ x. flags_wrong x s u) (class-in c h i k ei ek)
            ∙ ap₂ (flags_wrong (class_in ed c)) (got c 17 2 s h refl es) (got c 19 2 u h refl eu))

        pub flags-refused : wrong ≡ true → 7 ≡ first_refusal (after_repair ed c)
        flags-refused m = past-crc (unmet (test6 ∙ z6) (met (test7 ∙ m)))

        module _ (z7 : wrong ≡ false) where
          past-flags : {n : ℕ} → Tested (drop 3 (after_repair ed c)) n → n ≡ first_refusal (after_repair ed c)
          past-flags a = past-crc (unmet (test6 ∙ z6) (unmet (test7 ∙ z7) a))

          test8 : not (fixed_bits_hold (layout (body_in ed c)) (details_in c)) ≡ not d.holds
          test8 = ap not (sym t.fixed)

          pub fixed-refused : not d.holds ≡ true → 8 ≡ first_refusal (after_repair ed c)
          fixed-refused m = past-flags (met (test8 ∙ m))

          module _ (z8 : not d.holds ≡ false) (b : Body) (over : Bool) (eb : b ≡ body_in ed c)
              (e9 : over ≡ over_limit b d.contents.latitude d.contents.longitude) where
            test9 : over_limit (body_in ed c) (record_in ed 0 0 c).latitude (record_in ed 0 0 c).longitude ≡ over
            test9 =
                sym
                (e9 ∙ ap (λ x. over_limit x d.contents.latitude d.contents.longitude) eb
                ∙ ap₂ (over_limit (body_in ed c)) t.latitude t.longitude)

            pub limit-refused : over ≡ true → 9 ≡ first_refusal (after_repair ed c)
            limit-refused m = past-flags (unmet (test8 ∙ z8) (met (test9 ∙ m)))

            pub none-refused : over ≡ false → 0 ≡ first_refusal (after_repair ed c)
            none-refused m = past-flags (unmet (test8 ∙ z8) (unmet (test9 ∙ m) end))
