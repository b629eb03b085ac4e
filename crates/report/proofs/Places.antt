-- A reported place, its fields, and the record with other ones. Assumes nothing.
use mathlib.Core.Path.{◌≡◌, ◌∙◌, refl, sym, ap, subst}
use mathlib.Core.Bool.{Bool, true, false}
use Prim.Native.Nat.{ℕ, ◌≤◌, ◌<◌}
use native.Mathlib.Omega.{arith}
use lib.Dec.{eqb, ltb}
use lib.Ieee.{Float}
use borrow.Author.Tests.{eqb-true, eqb-false, ltb-false, le-ltb}
use Rattle.bits.specs.Layout.{Fit}
use Rattle.bits.proofs.Refusal.{neither}
use Rattle.bits.specs.Segment.{free_widths}
use Rattle.frame.specs.Body.{row, layout}
use Rattle.frame.specs.Fields.{scatter, fields, field_widths, record_body, over_limit}
use Rattle.frame.specs.Write.{Legal, record_refusal}
use Rattle.frame.specs.declared.Edition.{Edition}
use Rattle.frame.specs.declared.Body.{Body}
use Rattle.frame.specs.declared.Body.TheVariants.{AreaPage, PlacePage, CancelPage, SafetyDetails, NoInformation}
use Rattle.frame.specs.declared.Record.{Record}
use Rattle.frame.proofs.Indices.{fit_at}
use Rattle.frame.proofs.Bodies.{legal-sound, sound-legal}
use Rattle.place.specs.Degrees.{place_of}
use Rattle.place.specs.Desk.{Allowed}
use Rattle.place.specs.declared.Place.{Place}
use Rattle.place.specs.declared.Fields.{Fields}
use Rattle.report.specs.Report.{reported_by, report_of}
use Rattle.report.specs.Promises.{place_fields, with_place, reports_place}
use Rattle.report.proofs.Cases.{legal, refused}

-- ---- a place page's fields

limited : (latitude longitude : ℕ) → over_limit PlacePage latitude longitude ≡ false → (latitude ≤ 900) × (longitude ≤ 1800)
limited latitude longitude e =
    let h = neither (ltb 900 latitude) (ltb 1800 longitude) e in
    (ltb-false 900 latitude h.0, ltb-false 1800 longitude h.1)

within : (latitude longitude : ℕ) → latitude ≤ 900 → longitude ≤ 1800 → over_limit PlacePage latitude longitude ≡ false
within latitude longitude h l = rw (le-ltb 900 latitude h, le-ltb 1800 longitude l)

module _ (ed : Edition) (r : Record) (l : Legal ed r) (b : record_body ed r ≡ PlacePage) where
  fit : Fit (field_widths PlacePage) (fields r)
  fit = subst (λ (x : Body). Fit (field_widths x) (fields r)) b (legal-sound ed r l).fit

  limits : (r.latitude ≤ 900) × (r.longitude ≤ 1800)
  limits = limited r.latitude r.longitude (ap (λ (x : Body). over_limit x r.latitude r.longitude) (sym b) ∙ (legal-sound ed r l).limits)

  -- they are allowed
  pub allowed : Allowed (place_fields r)
  unfolding row layout scatter field_widths free_widths
  allowed =
      let at = fit_at (field_widths PlacePage) (fields r) fit in
      let south : r.south < 2 = at 11 in
      let west : r.west < 2 = at 13 in
      let depth : r.depth < 1024 = at 15 in
      record { south = omega arith; latitude = limits.0; west = omega arith; longitude = limits.1; depth = omega arith }

  -- the record with other allowed ones is a legal place page too
  module _ (f : Fields) (a : Allowed f) where
    pub with-body : record_body ed (with_place r f) ≡ PlacePage
    unfolding with_place
    with-body = b

    with-fit : Fit (field_widths PlacePage) (fields (with_place r f))
    unfolding row layout scatter field_widths free_widths with_place
    with-fit =
        let at = fit_at (field_widths PlacePage) (fields r) fit in
        let south : f.south < 2 = omega (arith, a.south) in
        let latitude : f.latitude < 1024 = omega (arith, a.latitude) in
        let west : f.west < 2 = omega (arith, a.west) in
        let longitude : f.longitude < 2048 = omega (arith, a.longitude) in
        let depth : f.depth < 1024 = omega (arith, a.depth) in
        (at 0, (at 1, (at 2, (at 3, (at 4, (at 5, (at 6, (at 7, (at 8, (at 9, (at 10, (south, (latitude, (west, (longitude, (depth, (at 16, (at 17, (at 18, tt)))))))))))))))))))

    pub with-legal : Legal ed (with_place r f)
    unfolding with_place
    with-legal =
        sound-legal ed (with_place r f)
        (record {
          known = (legal-sound ed r l).known;
          fit = subst (λ (x : Body). Fit (field_widths x) (fields (with_place r f))) (sym b) with-fit;
          limits = ap (λ (x : Body). over_limit x f.latitude f.longitude) b ∙ within f.latitude f.longitude a.latitude a.longitude;
        })

-- with its own it is the same
pub with-own : (r : Record) → with_place r (place_fields r) ≡ r
unfolding with_place
with-own r = refl

-- ---- who reports a place

pub record Reporter (ed : Edition) (r : Record) (p : Place) : Type 0 where
  pub legal : Legal ed r
  pub body : record_body ed r ≡ PlacePage
  pub is : place_of (place_fields r) ≡ p

abbrev made : (latitude longitude depth : Float) → Place
made n m d = record { latitude = n; longitude = m; depth = d }

module _ (ed : Edition) (r : Record) (p : Place) where
  by-body : (b : Body) → record_body ed r ≡ b → reported_by b r ≡ reports_place p → (record_body ed r ≡ PlacePage) × (place_of (place_fields r) ≡ p)
  by-body AreaPage e q = let z : ◌≡◌ {A = ℕ} 0 1 = cc in absurd (omega arith)
  by-body CancelPage e q = let z : ◌≡◌ {A = ℕ} 0 1 = cc in absurd (omega arith)
  by-body SafetyDetails e q = let z : ◌≡◌ {A = ℕ} 0 1 = cc in absurd (omega arith)
  by-body NoInformation e q = let z : ◌≡◌ {A = ℕ} 0 1 = cc in absurd (omega arith)
  by-body PlacePage e q =
      let o = place_of (place_fields r) in
      let same : made o.latitude o.longitude o.depth ≡ made p.latitude p.longitude p.depth = cc in
      (e, same)

  by-refusal : (t : Bool) → eqb (record_refusal ed r) 0 ≡ t → report_of ed r ≡ reports_place p → Reporter ed r p
  by-refusal true e q =
      let l : Legal ed r = eqb-true (record_refusal ed r) 0 e in
      let h = by-body (record_body ed r) refl (sym (legal ed r l) ∙ q) in
      record { legal = l; body = h.0; is = h.1 }
  by-refusal false e q =
      let n = sym (refused ed r (eqb-false (record_refusal ed r) 0 e)) ∙ q in
      let z : ◌≡◌ {A = ℕ} 0 1 = cc in absurd (omega arith)

  pub reporter : report_of ed r ≡ reports_place p → Reporter ed r p
  reporter = by-refusal (eqb (record_refusal ed r) 0) refl
