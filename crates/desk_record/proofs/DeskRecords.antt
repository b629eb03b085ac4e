-- The cases of making a record, and when it is legal. Assumes nothing.
use mathlib.Core.Path.{◌≡◌, refl, sym, ap, ◌∙◌, subst}
use mathlib.Core.Bool.{Bool, true, false, true≢false}
use mathlib.Core.Logic.{◌≢◌}
use mathlib.Core.List.{List, [], ◌∷◌}
use Prim.Native.Nat.{ℕ, ◌^◌, ◌<◌}
use native.Mathlib.Omega.{arith}
use lib.ListN.{get_or}
use borrow.Author.Tests.{eq-eqb, ne_eqb, le-ltb}
use Rattle.bits.specs.Layout.{Fit}
use Rattle.bits.specs.Segment.{free_widths}
use Rattle.bits.proofs.Refusal.{refusal-met}
use Rattle.frame.specs.Identification.{class_of, is_undefined}
use Rattle.frame.specs.Body.{body_of, row, layout}
use Rattle.frame.specs.Fields.{scatter, fields, field_widths, record_body, too_wide, over_limit}
use Rattle.frame.specs.Write.{Legal, record_refusal}
use Rattle.frame.specs.declared.Edition.{Edition}
use Rattle.frame.specs.declared.Class.{Class}
use Rattle.frame.specs.declared.Class.TheVariants as class
use Rattle.frame.specs.declared.Body.{Body}
use Rattle.frame.specs.declared.Body.TheVariants.{AreaPage, PlacePage, CancelPage, SafetyDetails, NoInformation}
use Rattle.frame.specs.declared.Record.{Record}
use Rattle.frame.proofs.Identifications.{warning-class, warning-only}
use Rattle.frame.proofs.Indices.{fit_at}
use Rattle.frame.proofs.Bodies.{legal-sound, sound-legal}
use Rattle.place.specs.Desk.{Allowed, conversion_of}
use Rattle.place.specs.declared.Place.{Place}
use Rattle.place.specs.declared.Fields.{Fields}
use Rattle.place.specs.declared.Conversion.{Conversion}
use Rattle.place.specs.declared.Conversion.TheVariants as conversion
use Rattle.desk_record.specs.DeskRecord.{place_record, judged, desk_answer, desk_record_of}
use Rattle.desk_record.specs.Promises.{Fits}
use Rattle.desk_record.specs.declared.DeskWarning.{DeskWarning}
use Rattle.desk_record.specs.declared.DeskRecord.TheVariants.{Made, Refused}

module _ (ed : Edition) (w : DeskWarning) where
  -- ---- a place that has field values

  module _ (f : Fields) where
    pub judged-legal : Legal ed (place_record w f) → judged ed (place_record w f) ≡ Made (place_record w f)
    judged-legal l = rw (eq-eqb (record_refusal ed (place_record w f)) 0 l)

    pub judged-refused : record_refusal ed (place_record w f) ≢ 0 → judged ed (place_record w f) ≡ Refused (record_refusal ed (place_record w f))
    judged-refused n = rw (ne_eqb (record_refusal ed (place_record w f)) 0 n)

    -- a warning's body is the place page
    body : class_of ed w.identification ≡ class.Warning → record_body ed (place_record w f) ≡ PlacePage
    unfolding place_record
    body e = ap (λ (c : Class). body_of c 1 0) e

    fit : Fits w → Allowed f → Fit (field_widths PlacePage) (fields (place_record w f))
    unfolding row layout scatter field_widths free_widths place_record
    fit h a =
        let identification : w.identification < 8 = omega (arith, h.identification) in
        let south : f.south < 2 = omega (arith, a.south) in
        let latitude : f.latitude < 1024 = omega (arith, a.latitude) in
        let west : f.west < 2 = omega (arith, a.west) in
        let longitude : f.longitude < 2048 = omega (arith, a.longitude) in
        let depth : f.depth < 1024 = omega (arith, a.depth) in
        let zero : ◌<◌ 0 2 = omega arith in
        let one : ◌<◌ 1 2 = omega arith in
        let none : ◌<◌ 0 1 = omega arith in
        (zero, (zero, (identification, (h.update, (h.time, (one, (none, (h.total, (h.item, (h.number, (zero, (south, (latitude, (west, (longitude, (depth, (h.occurred, (none, (none, tt)))))))))))))))))))

    limits : Allowed f → over_limit PlacePage f.latitude f.longitude ≡ false
    limits a = rw (le-ltb 900 f.latitude a.latitude, le-ltb 1800 f.longitude a.longitude)

    pub fits-legal : Fits w → Allowed f → Legal ed (place_record w f)
    unfolding place_record
    fits-legal h a =
        let r = place_record w f in
        let c = warning-class ed w.identification h.identification in
        sound-legal ed r
        (record {
          known = ap is_undefined c;
          fit = subst (λ (b : Body). Fit (field_widths b) (fields r)) (sym (body c)) (fit h a);
          limits = ap (λ (b : Body). over_limit b f.latitude f.longitude) (body c) ∙ limits a;
        })

    -- page 1 is refused where the body does not have it
    no-page : (b : Body) → record_body ed (place_record w f) ≡ b → get_or (field_widths b) 5 0 ≡ 0 → Legal ed (place_record w f) → ⊥
    unfolding place_record
    no-page b e n l =
        let r = place_record w f in
        let page : 1 < 2 ^ get_or (field_widths b) 5 0 =
        fit_at (field_widths b) (fields r) (subst (λ (x : Body). Fit (field_widths x) (fields r)) e (legal-sound ed r l).fit) 5 in
        let none : 1 < 2 ^ 0 = subst (λ (k : ℕ). 1 < 2 ^ k) n page in
        omega arith

    -- so it is a warning's
    class-legal : (c : Class) → class_of ed w.identification ≡ c → Legal ed (place_record w f) → c ≡ class.Warning
    unfolding row layout scatter field_widths free_widths place_record
    class-legal class.Warning e l = refl
    class-legal class.SafetyInformation e l = absurd (no-page SafetyDetails (rw e) refl l)
    class-legal class.Silent e l = absurd (no-page NoInformation (rw e) refl l)
    class-legal class.Undefined e l = absurd (true≢false (sym (ap is_undefined e) ∙ (legal-sound ed (place_record w f) l).known))

    pub legal-body : Legal ed (place_record w f) → record_body ed (place_record w f) ≡ PlacePage
    legal-body l = body (class-legal (class_of ed w.identification) refl l)

    pub legal-fits : Legal ed (place_record w f) → Fits w
    unfolding row layout scatter field_widths free_widths place_record
    legal-fits l =
        let r = place_record w f in
        let c = class-legal (class_of ed w.identification) refl l in
        let s = subst (λ (b : Body). Fit (field_widths b) (fields r)) (body c) (legal-sound ed r l).fit in
        let at = fit_at (field_widths PlacePage) (fields r) s in
        record {
          identification = warning-only ed w.identification c;
          update = at 3;
          time = at 4;
          total = at 7;
          item = at 8;
          number = at 9;
          occurred = at 16;
        }

    -- the limits are never passed
    pub not-nine : Allowed f → record_refusal ed (place_record w f) ≢ 9
    unfolding record_refusal place_record
    not-nine a e =
        let r = place_record w f in
        let first : List (ℕ × Bool) = (6, is_undefined (class_of ed w.identification)) ∷ (10, too_wide ed r) ∷ [] in
        go (record_body ed r) (refusal-met first [] 9 (over_limit (record_body ed r) f.latitude f.longitude) (omega arith) refl refl e)
      where
        go : (b : Body) → over_limit b f.latitude f.longitude ≡ true → ⊥
        go AreaPage q = true≢false (sym q)
        go PlacePage q = true≢false (sym q ∙ limits a)
        go CancelPage q = true≢false (sym q)
        go SafetyDetails q = true≢false (sym q)
        go NoInformation q = true≢false (sym q)

-- ---- as the code comes to them: c is what the place became, and r the record

module _ (ed : Edition) (w : DeskWarning) (p : Place) (c : Conversion) (ec : c ≡ conversion_of p) where
  pub by_place : (n : ℕ) → c ≡ conversion.Refused n → Refused n ≡ desk_record_of ed w p
  unfolding desk_record_of
  by_place n q = ap (desk_answer ed w) (sym q ∙ ec)

  module _ (f : Fields) (r : Record) (m : ℕ) (q : c ≡ conversion.Converted f) (er : r ≡ place_record w f) (em : m ≡ record_refusal ed r) where
    by-writer : judged ed r ≡ desk_record_of ed w p
    unfolding desk_record_of
    by-writer = ap (judged ed) er ∙ ap (desk_answer ed w) (sym q ∙ ec)

    pub by-refusal : m ≢ 0 → Refused m ≡ desk_record_of ed w p
    by-refusal h = ap Refused em ∙ sym (rw (ne_eqb (record_refusal ed r) 0 (λ z. h (em ∙ z)))) ∙ by-writer

    pub by-record : m ≡ 0 → Made r ≡ desk_record_of ed w p
    by-record z = sym (rw (eq-eqb (record_refusal ed r) 0 (sym em ∙ z))) ∙ by-writer
