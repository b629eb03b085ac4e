-- What this crate promises, in the words of documents 01 and 02, a) and j). The record has one value for every edition, proved in proofs/Promises.antt. Assumes
-- nothing.
use Rattle.std.specs.Prelude.{◌≡◌, ◌≢◌, [], ◌∷◌}
use Rattle.frame.specs.Fields.{SameFields, record_body}
use Rattle.frame.specs.Write.{Legal, record_refusal}
use Rattle.frame.specs.Promises.{NotSafety}
use Rattle.frame.specs.declared.Edition.{Edition}
use Rattle.frame.specs.declared.Body.TheVariants.{AreaPage, PlacePage, CancelPage, SafetyDetails, NoInformation}
use Rattle.frame.specs.declared.Record.{Record}
use Rattle.place.specs.Degrees.{degrees_of, kilometres_of, place_of}
use Rattle.place.specs.Desk.{SameBits, conversion_of}
use Rattle.place.specs.declared.Place.{Place}
use Rattle.place.specs.declared.Fields.{Fields}
use Rattle.place.specs.declared.Conversion.TheVariants.{Converted}
use Rattle.report.specs.declared.Reported.{Reported}
use Rattle.report.specs.declared.Reported.TheVariants as reported
use Rattle.report.specs.Report.{report_of, report_number, report_doubles}

-- the five fields of a record's place
abbrev pub place_fields : Record → Fields
place_fields r = record { south = r.south; latitude = r.latitude; west = r.west; longitude = r.longitude; depth = r.depth }

-- the record with these in their stead
unfoldable pub with_place : Record → Fields → Record
with_place r f =
    record {
      reference = r.reference;
      pattern = r.pattern;
      identification = r.identification;
      update = r.update;
      time = r.time;
      page = r.page;
      areas = r.areas;
      total = r.total;
      item = r.item;
      number = r.number;
      kind = r.kind;
      south = f.south;
      latitude = f.latitude;
      west = f.west;
      longitude = f.longitude;
      depth = f.depth;
      occurred = r.occurred;
      broadcaster = r.broadcaster;
      region = r.region;
      origin = r.origin;
    }

-- a report of a place
abbrev pub reports_place : Place → Reported
reports_place p = reported.Place p.latitude p.longitude p.depth

pub record Reports (ed : Edition) : Type 0 where
  -- for a record that is not legal the answer is the writer's 6, 10 or 9; a legal one has a report
  pub numbered : (r : Record) → report_number (report_of ed r) ≡ record_refusal ed r
  -- identification 7: nothing; page 0: areas only; kind 1: a cancellation; otherwise the place; area safety information is a case of its own
  pub nothing : (r : Record) → Legal ed r → record_body ed r ≡ NoInformation → report_of ed r ≡ reported.Nothing
  pub areas-only : (r : Record) → Legal ed r → record_body ed r ≡ AreaPage → report_of ed r ≡ reported.AreasOnly
  pub cancellation : (r : Record) → Legal ed r → record_body ed r ≡ CancelPage → report_of ed r ≡ reported.Cancellation
  pub safety : (r : Record) → Legal ed r → record_body ed r ≡ SafetyDetails → report_of ed r ≡ reported.Safety
  pub place : (r : Record) → Legal ed r → record_body ed r ≡ PlacePage → report_of ed r ≡ reports_place (place_of (place_fields r))
  -- a place is told by its three doubles, each the image of its field value; no other report tells any
  pub place-told : (r : Record) → Legal ed r → record_body ed r ≡ PlacePage
      → report_doubles (report_of ed r) ≡ degrees_of r.south r.latitude ∷ degrees_of r.west r.longitude ∷ kilometres_of r.depth ∷ []
  pub others-told : (r : Record) → record_body ed r ≢ PlacePage → report_doubles (report_of ed r) ≡ []
  pub refused-told : (r : Record) → record_refusal ed r ≢ 0 → report_doubles (report_of ed r) ≡ []
  -- a reported place, given to the desk, becomes the record's own fields
  pub desk-again : (r : Record) (p : Place) → report_of ed r ≡ reports_place p → conversion_of p ≡ Converted (place_fields r)
  -- so that report, desk and report again give the same place
  pub report-again : (r : Record) (p : Place) (f : Fields) → report_of ed r ≡ reports_place p → conversion_of p ≡ Converted f → report_of ed (with_place r f) ≡ reports_place p
  -- and a place that the desk accepts, put into a record of a place, is reported with the very same bits
  pub desk-reported : (r : Record) (p : Place) (f : Fields) → Legal ed r → record_body ed r ≡ PlacePage → conversion_of p ≡ Converted f
      → (report_of ed (with_place r f) ≡ reports_place (place_of f)) × SameBits p (place_of f)
  -- where a record came from does not matter: records that differ in the tuner and the number of repaired places alone report the same
  pub same-report : (r s : Record) → SameFields r s → report_of ed r ≡ report_of ed s
  -- which edition is named does not matter to a record that is not area safety information
  pub alike : (other : Edition) (r : Record) → NotSafety r.identification → report_of ed r ≡ report_of other r
