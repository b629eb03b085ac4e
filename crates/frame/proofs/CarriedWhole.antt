-- The 88 detail bits of area safety information are carried whole. Assumes nothing.
use mathlib.Core.Path.{◌≡◌, refl, sym, ap, ◌∙◌, subst}
use mathlib.Core.Bool.{Bool, true, false, cond, not}
use mathlib.Core.Logic.{◌≢◌, ◌⊎◌, inl, inr}
use mathlib.Core.List.{List, [], ◌∷◌, ◌++◌, append-nil}
use Prim.Native.Nat.{ℕ, ◌^◌, ◌≤◌, ◌<◌}
use native.Mathlib.Omega.{arith}
use lib.Dec.{eqb}
use lib.ListN.{take, drop, get_or}
use borrow.Author.Tests.{eqb-true}
use Rattle.bits.specs.Bits.{bits_of}
use Rattle.bits.specs.Layout.{Fit, pack, unpack}
use Rattle.bits.specs.Refusal.{first_refusal, or_else}
use Rattle.bits.specs.Segment.{widths, free_widths, fixed_hold, with_fixed, pack_segments, fixed_bits_hold}
use Rattle.bits.proofs.Refusal.{none-refusal, refusal-append, refusal-most}
use Rattle.dsc.specs.Marks.{Marking, repair_by}
use Rattle.frame.specs.Identification.{class_of, is_undefined}
use Rattle.frame.specs.Body.{row, layout}
use Rattle.frame.specs.Fields.{fields, no_origin, SameFields, gather, scatter, field_widths, body_values, record_body, over_limit}
use Rattle.frame.specs.Read.{class_in, body_in, details_in, record_in, frame_tests, refusal_by, read_by, clean_by}
use Rattle.frame.specs.Write.{Legal, frame_of}
use Rattle.frame.specs.Promises.{safety_record, CarriedWhole}
use Rattle.frame.specs.declared.Edition.{Edition}
use Rattle.frame.specs.declared.Edition.TheVariants.{AreaSafety}
use Rattle.frame.specs.declared.Class.{Class}
use Rattle.frame.specs.declared.Class.TheVariants.{SafetyInformation}
use Rattle.frame.specs.declared.Body.{Body}
use Rattle.frame.specs.declared.Body.TheVariants.{AreaPage, PlacePage, CancelPage, SafetyDetails, NoInformation}
use Rattle.frame.specs.declared.Tuner.{Tuner}
use Rattle.frame.specs.declared.Record.{Record}
use Rattle.frame.specs.declared.Reading.TheVariants.{Accepted}
use Rattle.frame.proofs.Identifications.{safety-class}
use Rattle.frame.proofs.Indices.{fit_at}
use Rattle.frame.proofs.Bodies.{Chosen, safety, chosen, legal-sound, sound-legal, body-record, record-fit, taken}
use Rattle.frame.proofs.Origins.{from_fields}
use Rattle.frame.proofs.Frames.{length-frame, parts-frame, own-parts}
use Rattle.frame.proofs.Promises.{demand2}

safety-only : {c : Class} {p k : ℕ} → Chosen c p k SafetyDetails → c ≡ SafetyInformation
safety-only safety = refl

safety-body : (ed : Edition) (r : Record) → class_of ed r.identification ≡ SafetyInformation → record_body ed r ≡ SafetyDetails
safety-body ed r s = rw s

in-details : (r : Record) → pack_segments (layout SafetyDetails) (body_values SafetyDetails r) ≡ bits_of 31 r.time ++ bits_of 57 r.region
unfolding row layout gather body_values widths with_fixed pack
in-details r = ap (bits_of 31 r.time ++◌) (append-nil (bits_of 57 r.region))

details : (ed : Edition) (q : Marking) (t : Tuner) (f : List ℕ) (r : Record) (d : ℕ) → read_by ed q t f ≡ Accepted r d
    → class_of ed r.identification ≡ SafetyInformation → details_in (clean_by q f) ≡ bits_of 31 r.time ++ bits_of 57 r.region
details ed q t f r d e s =
    ap details_in (sym ((demand2 ed).written-again q t f r d e))
    ∙ (own-parts ed r (frame_of ed r) (length-frame ed r) (parts-frame ed r).word).details
    ∙ ap (λ (b : Body). pack_segments (layout b) (body_values b r)) (safety-body ed r s)
    ∙ in-details r

fit : (t g : ℕ) → t < 2 ^ 31 → g < 2 ^ 57 → Fit (free_widths (layout SafetyDetails)) (t ∷ g ∷ [])
unfolding row layout free_widths
fit t g ht hg = (ht, (hg, tt))

three-bits : (i : ℕ) → (i ≡ 5) ⊎ (i ≡ 6) → i < 8
three-bits i (inl e) = omega arith
three-bits i (inr e) = omega arith

legal : (x p i u t g : ℕ) → x < 2 → p < 2 → (i ≡ 5) ⊎ (i ≡ 6) → u < 4 → t < 2 ^ 31 → g < 2 ^ 57 → Legal AreaSafety (safety_record x p i u t g)
legal x p i u t g hx hp hi hu ht hg =
    let vs : List ℕ = t ∷ g ∷ [] in
    let r = safety_record x p i u t g in
    let class : class_of AreaSafety r.identification ≡ SafetyInformation =
    ap (class_of AreaSafety) (taken SafetyDetails x p i u vs).identification ∙ (safety-class i hi).1 in
    let body = safety-body AreaSafety r class in
    sound-legal AreaSafety r
    (record {
      known = ap is_undefined class;
      fit = rw body (record-fit SafetyDetails x p i u vs hx hp (three-bits i hi) hu (fit t g ht hg));
      limits = ap (λ (b : Body). over_limit b r.latitude r.longitude) body;
    })

-- the tests of fixed bits and of limits
untested : (ed : Edition) (q : Marking) (f : List ℕ) → class_in ed (repair_by q f).word ≡ SafetyInformation → refusal_by ed q f ≤ 7
unfolding refusal_by row layout widths unpack fixed_hold
untested ed q f e =
    let c = (repair_by q f).word in
    let b : body_in ed c ≡ SafetyDetails = rw e in
    let ts = take 7 (frame_tests ed q f) in
    let us = drop 7 (frame_tests ed q f) in
    let r = record_in ed 0 0 c in
    let none : first_refusal us ≡ 0 =
    none-refusal us
    (ap (λ (y : Body). not (fixed_bits_hold (layout y) (details_in c))) b, (ap (λ (y : Body). over_limit y r.latitude r.longitude) b, tt)) in
    let all : first_refusal (ts ++ us) ≡ first_refusal ts =
    refusal-append ts us refl ∙ ap (or_else (first_refusal ts)) none ∙ or-none (first_refusal ts) in
    omega (arith, all, refusal-most 7 ts refl)
  where
    or-none : (n : ℕ) → or_else n 0 ≡ n
    or-none n = go (eqb n 0) refl
      where
        go : (t : Bool) → eqb n 0 ≡ t → cond t 0 n ≡ n
        go true q = sym (eqb-true n 0 q)
        go false q = refl

module _ (ed : Edition) (r : Record) (l : Legal ed r) where
  nothing-else : class_of ed r.identification ≡ SafetyInformation
      → SameFields r (safety_record r.reference r.pattern r.identification r.update r.time r.region)
  unfolding row layout gather body_values
  nothing-else e =
      let fits : Fit (field_widths SafetyDetails) (fields r) =
      subst (λ (b : Body). Fit (field_widths b) (fields r)) (safety-body ed r e) (legal-sound ed r l).fit in
      sym (ap fields (body-record SafetyDetails r safety fits) ∙ from_fields no_origin r)

  not-elsewhere : class_of ed r.identification ≢ SafetyInformation → r.region ≡ 0
  unfolding row layout scatter field_widths free_widths
  not-elsewhere n = go (record_body ed r) (chosen (class_of ed r.identification) r.page r.kind) (fit_at (field_widths (record_body ed r)) (fields r) (legal-sound ed r l).fit 18)
    where
      go : (b : Body) → Chosen (class_of ed r.identification) r.page r.kind b → r.region < 2 ^ get_or (field_widths b) 18 0 → r.region ≡ 0
      go AreaPage c h = omega arith
      go PlacePage c h = omega arith
      go CancelPage c h = omega arith
      go SafetyDetails c h = absurd (n (safety-only c))
      go NoInformation c h = omega arith

pub carried-whole : CarriedWhole
carried-whole = record { details = details; untested = untested; legal = legal; nothing-else = nothing-else; not-elsewhere = not-elsewhere }
