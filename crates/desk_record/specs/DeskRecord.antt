-- A record that is made at the desk (document 01, "The place in degrees"; document 02, j), judged by the edition named. Assumes nothing.
use Rattle.std.specs.Prelude.{cond, List, [], ℕ, eqb}
use Rattle.frame.specs.Fields.{fields, no_origin}
use Rattle.frame.specs.Write.{record_refusal}
use Rattle.frame.specs.declared.Edition.{Edition}
use Rattle.frame.specs.declared.Record.{Record}
use Rattle.place.specs.Desk.{conversion_of}
use Rattle.place.specs.declared.Place.{Place}
use Rattle.place.specs.declared.Fields.{Fields}
use Rattle.place.specs.declared.Conversion.{Conversion}
use Rattle.place.specs.declared.Conversion.TheVariants as conversion
use Rattle.desk_record.specs.declared.DeskWarning.{DeskWarning}
use Rattle.desk_record.specs.declared.DeskRecord.{DeskRecord}
use Rattle.desk_record.specs.declared.DeskRecord.TheVariants.{Made, Refused}

-- page 1 and kind 0, with what the desk gives and the place's five fields; the reference and the pattern are 0, and it came from no tuner
unfoldable pub place_record : DeskWarning → Fields → Record
place_record w f =
    record {
      reference = 0;
      pattern = 0;
      identification = w.identification;
      update = w.update;
      time = w.time;
      page = 1;
      areas = 0;
      total = w.total;
      item = w.item;
      number = w.number;
      kind = 0;
      south = f.south;
      latitude = f.latitude;
      west = f.west;
      longitude = f.longitude;
      depth = f.depth;
      occurred = w.occurred;
      broadcaster = 0;
      region = 0;
      origin = no_origin;
    }

-- the record, or the writer's refusal of it
abbrev pub judged : Edition → Record → DeskRecord
judged ed r = cond (eqb (record_refusal ed r) 0) (Made r) (Refused (record_refusal ed r))

-- of what the place became: its refusal, 11, comes first
abbrev pub desk_answer : Edition → DeskWarning → Conversion → DeskRecord
desk_answer ed w (conversion.Converted f) = judged ed (place_record w f)
desk_answer ed w (conversion.Refused n) = Refused n

-- what `make` answers
unfoldable pub desk_record_of : Edition → DeskWarning → Place → DeskRecord
desk_record_of ed w p = desk_answer ed w (conversion_of p)

-- the documents' number and values of an answer: 0 with the record's fields, or the refusal's number and nothing else
abbrev pub desk_record_number : DeskRecord → ℕ
desk_record_number (Made r) = 0
desk_record_number (Refused n) = n

abbrev pub desk_record_fields : DeskRecord → List ℕ
desk_record_fields (Made r) = fields r
desk_record_fields (Refused n) = []
