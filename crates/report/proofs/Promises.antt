-- The promises hold. Assumes nothing.
use mathlib.Core.Path.{◌≡◌, ◌∙◌, refl, sym, ap, subst}
use mathlib.Core.Bool.{Bool, true, false}
use mathlib.Core.Logic.{◌≢◌}
use mathlib.Core.List.{[], ◌∷◌}
use lib.Dec.{eqb}
use borrow.Author.Tests.{eqb-true, eqb-false}
use Rattle.frame.specs.Fields.{record_from, with_origin, record_body}
use Rattle.frame.specs.Write.{Legal, record_refusal}
use Rattle.frame.specs.Promises.{NotSafety}
use Rattle.frame.specs.declared.Edition.{Edition}
use Rattle.frame.specs.declared.Body.{Body}
use Rattle.frame.specs.declared.Body.TheVariants.{AreaPage, PlacePage, CancelPage, SafetyDetails, NoInformation}
use Rattle.frame.specs.declared.Origin.{Origin}
use Rattle.frame.specs.declared.Record.{Record}
use Rattle.frame.proofs.Identifications.{class-alike}
use Rattle.frame.proofs.Editions.{editions}
use Rattle.frame.proofs.Origins.{same_by, from-refusal}
use Rattle.place.specs.Degrees.{degrees_of, kilometres_of, place_of}
use Rattle.place.specs.Desk.{SameBits, conversion_of}
use Rattle.place.specs.declared.Place.{Place}
use Rattle.place.specs.declared.Fields.{Fields}
use Rattle.place.specs.declared.Conversion.TheVariants.{Converted}
use Rattle.place.proofs.Promises.{degrees-laws}
use Rattle.report.specs.Report.{reported_by, report_of, report_number, report_doubles}
use Rattle.report.specs.Promises.{place_fields, with_place, reports_place, Reports}
use Rattle.report.proofs.Cases.{legal, refused}
use Rattle.report.proofs.Places.{allowed, with-body, with-legal, with-own, reporter}

body-number : (b : Body) (r : Record) → report_number (reported_by b r) ≡ 0
body-number AreaPage r = refl
body-number PlacePage r = refl
body-number CancelPage r = refl
body-number SafetyDetails r = refl
body-number NoInformation r = refl

body-told : (b : Body) (r : Record) → b ≢ PlacePage → report_doubles (reported_by b r) ≡ []
body-told AreaPage r n = refl
body-told PlacePage r n = absurd (n refl)
body-told CancelPage r n = refl
body-told SafetyDetails r n = refl
body-told NoInformation r n = refl

-- where a record came from is not reported
from-body : (b : Body) (o : Origin) (r : Record) → reported_by b (with_origin o r) ≡ reported_by b r
unfolding record_from
from-body AreaPage o r = refl
from-body PlacePage o r = refl
from-body CancelPage o r = refl
from-body SafetyDetails o r = refl
from-body NoInformation o r = refl

module _ (ed : Edition) where
  numbered : (r : Record) → report_number (report_of ed r) ≡ record_refusal ed r
  numbered r = go (eqb (record_refusal ed r) 0) refl
    where
      go : (t : Bool) → eqb (record_refusal ed r) 0 ≡ t → report_number (report_of ed r) ≡ record_refusal ed r
      go true e =
          let l = eqb-true (record_refusal ed r) 0 e in
          ap report_number (legal ed r l) ∙ body-number (record_body ed r) r ∙ sym l
      go false e = ap report_number (refused ed r (eqb-false (record_refusal ed r) 0 e))

  by : (b : Body) (r : Record) → Legal ed r → record_body ed r ≡ b → report_of ed r ≡ reported_by b r
  by b r l e = legal ed r l ∙ ap (λ (x : Body). reported_by x r) e

  place-told : (r : Record) → Legal ed r → record_body ed r ≡ PlacePage
      → report_doubles (report_of ed r) ≡ degrees_of r.south r.latitude ∷ degrees_of r.west r.longitude ∷ kilometres_of r.depth ∷ []
  place-told r l e = ap report_doubles (by PlacePage r l e)

  refused-told : (r : Record) → record_refusal ed r ≢ 0 → report_doubles (report_of ed r) ≡ []
  refused-told r n = ap report_doubles (refused ed r n)

  others-told : (r : Record) → record_body ed r ≢ PlacePage → report_doubles (report_of ed r) ≡ []
  others-told r n = go (eqb (record_refusal ed r) 0) refl
    where
      go : (t : Bool) → eqb (record_refusal ed r) 0 ≡ t → report_doubles (report_of ed r) ≡ []
      go true e = ap report_doubles (legal ed r (eqb-true (record_refusal ed r) 0 e)) ∙ body-told (record_body ed r) r n
      go false e = refused-told r (eqb-false (record_refusal ed r) 0 e)

  desk-again : (r : Record) (p : Place) → report_of ed r ≡ reports_place p → conversion_of p ≡ Converted (place_fields r)
  desk-again r p e =
      let k = reporter ed r p e in
      ap conversion_of (sym k.is) ∙ degrees-laws.back-again (place_fields r) (allowed ed r k.legal k.body)

  report-again : (r : Record) (p : Place) (f : Fields) → report_of ed r ≡ reports_place p → conversion_of p ≡ Converted f → report_of ed (with_place r f) ≡ reports_place p
  report-again r p f e c =
      let d = desk-again r p e in
      let own : place_fields r ≡ f = cc in
      subst (λ (x : Fields). report_of ed (with_place r x) ≡ reports_place p) own (ap (report_of ed) (with-own r) ∙ e)

  desk-reported : (r : Record) (p : Place) (f : Fields) → Legal ed r → record_body ed r ≡ PlacePage → conversion_of p ≡ Converted f
      → (report_of ed (with_place r f) ≡ reports_place (place_of f)) × SameBits p (place_of f)
  unfolding with_place
  desk-reported r p f l b c =
      let k = degrees-laws.placed-only p f c in
      (by PlacePage (with_place r f) (with-legal ed r l b f k.0) (with-body ed r l b f k.0), k.1)

  alike : (other : Edition) (r : Record) → NotSafety r.identification → report_of ed r ≡ report_of other r
  unfolding report_of
  alike other r n = rw ((editions.record-alike ed other r n).refusal, class-alike ed other r.identification n)

  from-report : (o : Origin) (r : Record) → report_of ed (with_origin o r) ≡ report_of ed r
  unfolding report_of record_from
  from-report o r = rw (from-refusal ed o r, from-body (record_body ed r) o r)

  pub reports : Reports ed
  reports =
      record {
        numbered = numbered;
        nothing = by NoInformation;
        safety = by SafetyDetails;
        areas-only = by AreaPage;
        cancellation = by CancelPage;
        place = by PlacePage;
        place-told = place-told;
        others-told = others-told;
        refused-told = refused-told;
        desk-again = desk-again;
        report-again = report-again;
        desk-reported = desk-reported;
        same-report = same_by (report_of ed) from-report;
        alike = alike;
      }
