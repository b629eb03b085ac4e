-- Laws of the bodies: what a legal record puts into its body, and the record that stands in a body's values. Assumes nothing.
use mathlib.Core.Path.{◌≡◌, refl, sym, ap, ◌∙◌, subst}
use mathlib.Core.Bool.{Bool, true, false, cond, and-eq-true_iff, ◌&&◌}
use mathlib.Core.Logic.{◌≢◌}
use mathlib.Core.List.{List, [], ◌∷◌}
use Prim.Native.Nat.{ℕ, zero, suc, ◌+◌, ◌-◌, ◌*◌, ◌^◌, ◌≤◌, ◌<◌}
use native.Mathlib.Omega.{arith}
use lib.Dec.{eqb, leb, ltb}
use lib.ListN.{length, get_or, take, drop, replicate}
use lib.Seq.{drop-drop}
use borrow.Author.Tests.{eqb-true, eqb-false, ne_eqb, ltb-true, leb-true, not-false}
use Rattle.bits.specs.Bits.{value}
use Rattle.bits.specs.Layout.{unpack, sum, Fit, fitb, Layout, layoutb}
use Rattle.bits.specs.Segment.{widths, free_widths, free, with_fixed, pack_segments, unpack_segments}
use Rattle.bits.proofs.Layouts.{unpack-pack, length-fit, fitb-fit, fit-fitb, layoutb-layout}
use Rattle.bits.proofs.Segments.{fit-with_fixed}
use Rattle.bits.specs.Refusal.{test_numbers}
use Rattle.bits.proofs.Refusal.{refusal-none, none-refusal}
use Rattle.frame.specs.Identification.{class_of, update_of, is_undefined}
use Rattle.frame.specs.Entry.{Entry, held, ones, segments_of, indices_of}
use Rattle.frame.specs.Body.{body_of, row, layout, indices, own_update}
use Rattle.frame.specs.Span.{span_of, between}
use Rattle.frame.specs.Fields.{field_count, fields, no_origin, record_from, with_origin, gather, scatter, before_details, in_fields, field_widths, body_values, record_body, too_wide, over_limit, record_of}
use Rattle.frame.specs.Write.{record_tests, record_refusal, Legal}
use Rattle.frame.specs.declared.Edition.{Edition}
use Rattle.frame.specs.declared.Class.{Class}
use Rattle.frame.specs.declared.Class.TheVariants.{Warning, SafetyInformation, Silent, Undefined}
use Rattle.frame.specs.declared.Body.{Body}
use Rattle.frame.specs.declared.Body.TheVariants.{AreaPage, PlacePage, CancelPage, SafetyDetails, NoInformation}
use Rattle.frame.specs.declared.Record.{Record}
use Rattle.frame.proofs.Indices.{length-scatter, absent, apart, scatter-other, scatter-shared, gather-scatter, fit_at, fit-gather, fit-scatter, Agree, next, agree-scatter, agree-fit, agree-none}

-- ---- which body it is

-- the class, page and kind of each body
pub data Chosen : Class → ℕ → ℕ → Body → Type 0 where
  area : {p k : ℕ} → p ≢ 1 → Chosen Warning p k AreaPage
  place : {p k : ℕ} → p ≡ 1 → k ≢ 1 → Chosen Warning p k PlacePage
  cancel : {p k : ℕ} → p ≡ 1 → k ≡ 1 → Chosen Warning p k CancelPage
  safety : {p k : ℕ} → Chosen SafetyInformation p k SafetyDetails
  silent : {p k : ℕ} → Chosen Silent p k NoInformation
  undefined : {p k : ℕ} → Chosen Undefined p k NoInformation

pub chosen : (c : Class) (p k : ℕ) → Chosen c p k (body_of c p k)
chosen Warning p k = go (eqb p 1) (eqb k 1) refl refl
  where
    go : (s t : Bool) → eqb p 1 ≡ s → eqb k 1 ≡ t → Chosen Warning p k (cond s (cond t CancelPage PlacePage) AreaPage)
    go true true es et = cancel (eqb-true p 1 es) (eqb-true k 1 et)
    go true false es et = place (eqb-true p 1 es) (eqb-false k 1 et)
    go false t es et = area (eqb-false p 1 es)
chosen SafetyInformation p k = safety
chosen Silent p k = silent
chosen Undefined p k = undefined

-- ---- legal records

module _ (ed : Edition) where
  pub record Sound (r : Record) : Type 0 where
    pub known : is_undefined (class_of ed r.identification) ≡ false
    pub fit : Fit (field_widths (record_body ed r)) (fields r)
    pub limits : over_limit (record_body ed r) r.latitude r.longitude ≡ false

  -- the order of a record's tests; it stands before the laws that go through them, so that another order is refused here
  pub record-order : (r : Record) → test_numbers (record_tests ed r) ≡ 6 ∷ 10 ∷ 9 ∷ []
  record-order r = refl

  refusals : Record → List (ℕ × Bool)
  refusals r =
      (6, is_undefined (class_of ed r.identification)) ∷ (10, too_wide ed r) ∷ (9, over_limit (record_body ed r) r.latitude r.longitude) ∷ []

  pub sound-legal : (r : Record) → Sound r → Legal ed r
  unfolding record_refusal refusals
  sound-legal r s =
      none-refusal (refusals r) (s.known, (rw (fit-fitb (field_widths (record_body ed r)) (fields r) s.fit), (s.limits, tt)))

  pub legal-sound : (r : Record) → Legal ed r → Sound r
  unfolding record_refusal refusals
  legal-sound r e =
      let h = refusal-none (refusals r) refl e in
      record {
        known = h.0;
        fit = fitb-fit (field_widths (record_body ed r)) (fields r) (not-false (fitb (field_widths (record_body ed r)) (fields r)) h.1.0);
        limits = h.1.1.0;
      }

-- ---- the tables

-- as many indices as fields
indices-fields : (l : List Entry) → length (free_widths (segments_of l)) ≡ length (indices_of l)
unfolding free_widths
indices-fields [] = refl
indices-fields (held k w ∷ l) = ap suc (indices-fields l)
indices-fields (ones w ∷ l) = indices-fields l

pub length-free : (b : Body) → length (free_widths (layout b)) ≡ length (indices b)
unfolding layout
length-free b = indices-fields (row b)

-- some tests are all true
all_true : List Bool → Bool
all_true [] = true
all_true (t ∷ ts) = t && all_true ts

EachTrue : List Bool → Type 0
EachTrue [] = Unit {0}
EachTrue (t ∷ ts) = (t ≡ true) × EachTrue ts

each-true : (ts : List Bool) → all_true ts ≡ true → EachTrue ts
unfolding all_true EachTrue
each-true [] e = tt
each-true (t ∷ ts) e = let h = (and-eq-true_iff t (all_true ts)).0 e in (h.0, each-true ts h.1)

-- what is to be seen of a body. Of its row: it has 88 bits, and its indices lie in the record, after the fields that stand before the details, no
-- two of them one. Of its span: the widths find room after the bytes before them, with the bits before and after them they are all 88, and its
-- fields are of the record.
right_row : Body → List Bool
right_row b =
    let s = span_of b in
    let ws = between s.from s.to (field_widths b) in
    eqb (sum (widths (layout b))) 88
    ∷ apart field_count (0 ∷ 1 ∷ 2 ∷ 3 ∷ indices b)
    ∷ layoutb ws (11 - s.before)
    ∷ eqb (8 * s.before + sum ws + s.after) 88
    ∷ ltb s.after 64
    ∷ leb s.before 7
    ∷ leb s.from s.to
    ∷ leb s.to field_count
    ∷ []

right-row : (b : Body) → all_true (right_row b) ≡ true
unfolding row layout widths sum scatter field_widths free_widths span_of right_row all_true
right-row AreaPage = refl
right-row PlacePage = refl
right-row CancelPage = refl
right-row SafetyDetails = refl
right-row NoInformation = refl

-- the same as facts
pub record Right (b : Body) : Type 0 where
  pub whole : sum (widths (layout b)) ≡ 88
  pub separate : apart field_count (0 ∷ 1 ∷ 2 ∷ 3 ∷ indices b) ≡ true
  pub room : Layout (between (span_of b).from (span_of b).to (field_widths b)) (11 - (span_of b).before)
  pub all : 8 * (span_of b).before + sum (between (span_of b).from (span_of b).to (field_widths b)) + (span_of b).after ≡ 88
  pub after : (span_of b).after < 64
  pub before : (span_of b).before ≤ 7
  pub ordered : (span_of b).from ≤ (span_of b).to
  pub within : (span_of b).to ≤ field_count

pub right : (b : Body) → Right b
unfolding right_row EachTrue
right b =
    let s = span_of b in
    let ws = between s.from s.to (field_widths b) in
    let h = each-true (right_row b) (right-row b) in
    let t = h.1.1 in
    let n = t.1.1 in
    record {
      whole = eqb-true (sum (widths (layout b))) 88 h.0;
      separate = h.1.0;
      room = layoutb-layout ws (11 - s.before) t.0;
      all = eqb-true (8 * s.before + sum ws + s.after) 88 t.1.0;
      after = ltb-true s.after 64 n.0;
      before = leb-true s.before 7 n.1.0;
      ordered = leb-true s.from s.to n.1.1.0;
      within = leb-true s.to field_count n.1.1.1.0;
    }

pub layout-sum : (b : Body) → sum (widths (layout b)) ≡ 88
layout-sum b = (right b).whole

record Placed (ks : List ℕ) : Type 0 where
  reference : absent 0 ks ≡ true
  pattern : absent 1 ks ≡ true
  identification : absent 2 ks ≡ true
  update : absent 3 ks ≡ true
  within : apart field_count ks ≡ true

placed : (b : Body) → Placed (indices b)
placed b =
    let ks = indices b in
    let h0 = (and-eq-true_iff (absent 0 ks) (apart field_count (1 ∷ 2 ∷ 3 ∷ ks))).0 (right b).separate in
    let h1 = (and-eq-true_iff (absent 1 ks) (apart field_count (2 ∷ 3 ∷ ks))).0 h0.1 in
    let h2 = (and-eq-true_iff (absent 2 ks) (apart field_count (3 ∷ ks))).0 h1.1 in
    let h3 = (and-eq-true_iff (absent 3 ks) (apart field_count ks)).0 h2.1 in
    record { reference = h0.0; pattern = h1.0; identification = h2.0; update = h3.0; within = h3.1 }

-- what stands before the details stays
record Fronted (b : Body) (x p i u : ℕ) (us : List ℕ) : Type 0 where
  reference : get_or (in_fields b x p i u us) 0 0 ≡ x
  pattern : get_or (in_fields b x p i u us) 1 0 ≡ p
  identification : get_or (in_fields b x p i u us) 2 0 ≡ i
  update : get_or (in_fields b x p i u us) 3 0 ≡ own_update b u

fronted : (b : Body) (x p i u : ℕ) (us : List ℕ) → Fronted b x p i u us
fronted b x p i u us =
    let h = placed b in
    let at = scatter-other (indices b) us (before_details b x p i u) in
    record {
      reference = at 0 h.reference;
      pattern = at 1 h.pattern;
      identification = at 2 h.identification;
      update = at 3 h.update;
    }

length-in_fields : (b : Body) (x p i u : ℕ) (us : List ℕ) → length (in_fields b x p i u us) ≡ field_count
length-in_fields b x p i u us = length-scatter (indices b) us (before_details b x p i u)

pub length-field_widths : (b : Body) → length (field_widths b) ≡ field_count
unfolding field_widths
length-field_widths b = length-in_fields b 1 1 3 2 (free_widths (layout b))

-- n elements from element k on, one by one
elements : ℕ → ℕ → List ℕ → List ℕ
elements k zero vs = []
elements k (suc n) vs = get_or vs k 0 ∷ elements (suc k) n vs

elements-cons : (k n v : ℕ) (vs : List ℕ) → elements (suc k) n (v ∷ vs) ≡ elements k n vs
unfolding elements
elements-cons k zero v vs = refl
elements-cons k (suc n) v vs = ap (get_or vs k 0 ∷◌) (elements-cons (suc k) n v vs)

elements-all : (vs : List ℕ) → elements 0 (length vs) vs ≡ vs
unfolding elements
elements-all [] = refl
elements-all (v ∷ vs) = ap (v ∷◌) (elements-cons 0 (length vs) v vs ∙ elements-all vs)

-- the fields of the record that has these
fields-from : (v : List ℕ) → length v ≡ field_count → fields (record_from no_origin v) ≡ v
unfolding record_from elements
fields-from v n = ap (λ (k : ℕ). elements 0 k v) (sym n) ∙ elements-all v

-- ---- what a record puts into its body

pub body-fit : (b : Body) (r : Record) → Fit (field_widths b) (fields r) → Fit (free_widths (layout b)) (body_values b r)
unfolding field_widths body_values
body-fit b r f =
    subst (λ (ws : List ℕ). Fit ws (gather (indices b) (fields r)))
    (gather-scatter (indices b) (free_widths (layout b)) (before_details b 1 1 3 2) (placed b).within (length-free b))
    (fit-gather (indices b) (field_widths b) (fields r) f)

-- the fields that every record has, of those that fit
pub record Heads (r : Record) : Type 0 where
  pub reference : r.reference < 2
  pub pattern : r.pattern < 2
  pub identification : r.identification < 8

pub heads : (b : Body) (r : Record) → Fit (field_widths b) (fields r) → Heads r
unfolding field_widths
heads b r f =
    let h = fit_at (field_widths b) (fields r) f in
    let w = fronted b 1 1 3 2 (free_widths (layout b)) in
    record { reference = rw w.reference at (h 0); pattern = rw w.pattern at (h 1); identification = rw w.identification at (h 2) }

pub own-update : (b : Body) (r : Record) → Fit (field_widths b) (fields r) → r.update < 2 ^ own_update b 2
unfolding field_widths
own-update b r f = rw (fronted b 1 1 3 2 (free_widths (layout b))).update at (fit_at (field_widths b) (fields r) f 3)

same : {x : ℕ} (y w : ℕ) → x ≡ y → y < 2 ^ w → x ≡ y
same y w e h = e

-- the update is the record's own, or 0 where it is not left free
update_agrees : (b : Body) (r : Record) {c : Class} → Chosen c r.page r.kind b → r.update < 2 ^ own_update b 2 → own_update b (update_of c r.update) ≡ r.update
update_agrees AreaPage r (area n) h = refl
update_agrees PlacePage r (place p n) h = refl
update_agrees CancelPage r (cancel p k) h = refl
update_agrees SafetyDetails r safety h = refl
update_agrees NoInformation r k h = omega arith

-- and the record that is found there: what is not free is 0
pub body-record : (b : Body) (r : Record) {c : Class} → Chosen c r.page r.kind b → Fit (field_widths b) (fields r)
    → record_of b r.reference r.pattern r.identification (update_of c r.update) (body_values b r) ≡ with_origin no_origin r
unfolding field_widths body_values record_of
body-record b r {c} ch f =
    let u = update_of c r.update in
    let a : Agree (before_details b 1 1 3 2) (before_details b r.reference r.pattern r.identification u) (fields r) =
    next (same r.reference 1 refl)
    (next (same r.pattern 1 refl)
    (next (same r.identification 3 refl)
    (next (update_agrees b r ch) (agree-none (field_count - 4) (drop 4 (fields r)) refl)))) in
    ap (record_from no_origin) (agree-fit (agree-scatter (indices b) (free_widths (layout b)) (length-free b) a) f)

-- the value of one segment
unpack-at : (ws : List ℕ) (bs : List Bool) (i : ℕ) → get_or (unpack ws bs) i 0 ≡ value (take (get_or ws i 0) (drop (sum (take i ws)) bs))
unfolding unpack sum value
unpack-at [] bs i = refl
unpack-at (w ∷ ws) bs zero = refl
unpack-at (w ∷ ws) bs (suc i) = unpack-at ws (drop w bs) i ∙ ap (λ (d : List Bool). value (take (get_or ws i 0) d)) (drop-drop (sum (take i ws)) w bs)

-- the value of a segment, in the details
found : (b : Body) (r : Record) → Fit (field_widths b) (fields r) → (j : ℕ)
    → let l = layout b in value (take (get_or (widths l) j 0) (drop (sum (take j (widths l))) (pack_segments l (body_values b r)))) ≡ get_or (with_fixed l (body_values b r)) j 0
found b r f j =
    let l = layout b in
    sym (unpack-at (widths l) (pack_segments l (body_values b r)) j)
    ∙ ap (λ (vs : List ℕ). get_or vs j 0) (unpack-pack (widths l) (with_fixed l (body_values b r)) (fit-with_fixed l (body_values b r) (body-fit b r f)))

-- the page and the kind that stand in the details choose the body again
pub body-again : (b : Body) (r : Record) {c : Class} → Chosen c r.page r.kind b → Fit (field_widths b) (fields r)
    → let d = pack_segments (layout b) (body_values b r) in body_of c (value (take 1 (drop 31 d))) (value (take 1 (drop 43 d))) ≡ b
unfolding row layout gather body_values widths with_fixed sum
body-again AreaPage r (area n) f = rw (found AreaPage r f 1, ne_eqb r.page 1 n)
body-again PlacePage r (place p n) f = rw (found PlacePage r f 1, found PlacePage r f 5, p, ne_eqb r.kind 1 n)
body-again CancelPage r (cancel p k) f = rw (found CancelPage r f 1, found CancelPage r f 5, p, k)
body-again SafetyDetails r safety f = refl
body-again NoInformation r silent f = refl
body-again NoInformation r undefined f = refl

-- ---- the record that stands in a body's values

-- values taken into a record and put again
pub record-values : (b : Body) (x p i u : ℕ) (us : List ℕ) → Fit (free_widths (layout b)) us → body_values b (record_of b x p i u us) ≡ us
unfolding body_values record_of
record-values b x p i u us f =
    ap (gather (indices b)) (fields-from (in_fields b x p i u us) (length-in_fields b x p i u us))
    ∙ gather-scatter (indices b) us (before_details b x p i u) (placed b).within (length-fit (free_widths (layout b)) us f ∙ length-free b)

own-lt : (b : Body) (u : ℕ) → u < 4 → own_update b u < 2 ^ own_update b 2
own-lt AreaPage u h = h
own-lt PlacePage u h = h
own-lt CancelPage u h = h
own-lt SafetyDetails u h = h
own-lt NoInformation u h = omega arith

fit_none : (n : ℕ) → Fit (replicate n 0) (replicate n 0)
fit_none zero = tt
fit_none (suc n) = (omega arith, fit_none n)

-- and what was read fits
pub record-fit : (b : Body) (x p i u : ℕ) (us : List ℕ) → x < 2 → p < 2 → i < 8 → u < 4 → Fit (free_widths (layout b)) us
    → Fit (field_widths b) (fields (record_of b x p i u us))
unfolding record_of field_widths
record-fit b x p i u us hx hp hi hu f =
    subst (Fit (field_widths b)) (sym (fields-from (in_fields b x p i u us) (length-in_fields b x p i u us)))
    (fit-scatter (indices b) (free_widths (layout b)) us (before_details b 1 1 3 2) (before_details b x p i u) f (hx, (hp, (hi, (own-lt b u hu, fit_none (field_count - 4))))))

kind_at : (d : List Bool) → drop 9 (drop 1 (drop 1 (drop 1 (drop 31 d)))) ≡ drop 43 d
kind_at d = simp drop-drop

-- a record that was read has the body that it was read from
pub record-body : (b : Body) (x p i u : ℕ) (d : List Bool) {c : Class} → Chosen c (value (take 1 (drop 31 d))) (value (take 1 (drop 43 d))) b
    → let r = record_of b x p i u (unpack_segments (layout b) d) in body_of c r.page r.kind ≡ b
unfolding row layout scatter record_from record_of widths free unpack
record-body AreaPage x p i u d (area n) = rw (ne_eqb (value (take 1 (drop 31 d))) 1 n)
record-body PlacePage x p i u d (place e n) = rw (e, kind_at d, ne_eqb (value (take 1 (drop 43 d))) 1 n)
record-body CancelPage x p i u d (cancel e k) = rw (e, kind_at d, k)
record-body SafetyDetails x p i u d safety = refl
record-body NoInformation x p i u d silent = refl
record-body NoInformation x p i u d undefined = refl

-- what a record takes over as it stands
pub record Taken (b : Body) (x p i u : ℕ) (us : List ℕ) : Type 0 where
  pub reference : (record_of b x p i u us).reference ≡ x
  pub pattern : (record_of b x p i u us).pattern ≡ p
  pub identification : (record_of b x p i u us).identification ≡ i
  pub update : (record_of b x p i u us).update ≡ own_update b u
  -- the place is the same with another reference and pattern
  pub latitude : (record_of b x p i u us).latitude ≡ (record_of b 0 0 i u us).latitude
  pub longitude : (record_of b x p i u us).longitude ≡ (record_of b 0 0 i u us).longitude

pub taken : (b : Body) (x p i u : ℕ) (us : List ℕ) → Taken b x p i u us
unfolding record_of record_from
taken b x p i u us =
    let h = fronted b x p i u us in
    record {
      reference = h.reference;
      pattern = h.pattern;
      identification = h.identification;
      update = h.update;
      latitude = scatter-shared (indices b) us (before_details b x p i u) (before_details b 0 0 i u) 12 refl refl;
      longitude = scatter-shared (indices b) us (before_details b x p i u) (before_details b 0 0 i u) 14 refl refl;
    }
