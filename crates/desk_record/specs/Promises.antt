-- What this crate promises, in the words of documents 01 and 02, j). The record has one value for every edition, proved in proofs/Promises.antt. Assumes
-- nothing.
use Rattle.std.specs.Prelude.{◌≡◌, ◌≢◌, [], ◌^◌, ◌≤◌, ◌<◌}
use Rattle.frame.specs.Fields.{fields, no_origin}
use Rattle.frame.specs.Write.{Legal, record_refusal}
use Rattle.frame.specs.declared.Edition.{Edition}
use Rattle.frame.specs.declared.Record.{Record}
use Rattle.place.specs.Degrees.{place_of}
use Rattle.place.specs.Desk.{Allowed, SameBits, conversion_of, conversion_number}
use Rattle.place.specs.declared.Place.{Place}
use Rattle.place.specs.declared.Fields.{Fields}
use Rattle.place.specs.declared.Conversion.TheVariants.{Converted}
use Rattle.report.specs.Report.{report_of}
use Rattle.report.specs.Promises.{reports_place}
use Rattle.desk_record.specs.DeskRecord.{place_record, desk_record_of, desk_record_number, desk_record_fields}
use Rattle.desk_record.specs.declared.DeskWarning.{DeskWarning}
use Rattle.desk_record.specs.declared.DeskRecord.TheVariants.{Made, Refused}

-- a warning or a test, and every field fits its bits
pub record Fits (w : DeskWarning) : Type 0 where
  pub identification : w.identification ≤ 3
  pub update : w.update < 2 ^ 2
  pub time : w.time < 2 ^ 31
  pub total : w.total < 2
  pub item : w.item < 2
  pub number : w.number < 2 ^ 9
  pub occurred : w.occurred < 2 ^ 10

-- the record r was made of the warning w and the place p
pub record MadeOf (ed : Edition) (w : DeskWarning) (p : Place) (r : Record) : Type 0 where
  pub place : Fields
  pub converted : conversion_of p ≡ Converted place
  pub is : place_record w place ≡ r
  pub fits : Fits w
  -- it is legal, so that it can be written, by demand 2
  pub legal : Legal ed r
  -- no tuner, and nothing repaired
  pub origin : r.origin ≡ no_origin
  -- it reports the place, with the very same bits
  pub reported : report_of ed r ≡ reports_place (place_of place)
  pub same : SameBits p (place_of place)

pub record DeskRecords (ed : Edition) : Type 0 where
  -- refusals: 11 first, then the writer's
  pub eleven-first : (w : DeskWarning) (p : Place) → conversion_number (conversion_of p) ≡ 11 → desk_record_of ed w p ≡ Refused 11
  pub then-the-writers : (w : DeskWarning) (p : Place) (f : Fields) → conversion_of p ≡ Converted f
      → desk_record_number (desk_record_of ed w p) ≡ record_refusal ed (place_record w f)
  -- 9 is never among them, since no place over a limit has an image
  pub never-nine : (w : DeskWarning) (p : Place) → desk_record_number (desk_record_of ed w p) ≢ 9
  -- a refusal tells its number and nothing else
  pub refused-told : (w : DeskWarning) (p : Place) → desk_record_number (desk_record_of ed w p) ≢ 0 → desk_record_fields (desk_record_of ed w p) ≡ []
  -- a record is made wherever the place has field values and the rest fits
  pub made : (w : DeskWarning) (p : Place) (f : Fields) → Fits w → conversion_of p ≡ Converted f → desk_record_of ed w p ≡ Made (place_record w f)
  -- so of everything that fits, with every allowed place
  pub made_every : (w : DeskWarning) (f : Fields) → Fits w → Allowed f → desk_record_fields (desk_record_of ed w (place_of f)) ≡ fields (place_record w f)
  -- and only there
  pub made-only : (w : DeskWarning) (p : Place) (r : Record) → desk_record_of ed w p ≡ Made r → MadeOf ed w p r
