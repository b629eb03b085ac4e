-- `desk_record::make` meets its contract. Assumes nothing.
use Rattle.desk_record.proofs.DeskRecords.{by_place, by-refusal, by-record}
use Rattle.desk_record.proofs.make.Goals as goal

pub returns-then-number-ne0 : goal.returns-then-number-ne0
returns-then-number-ne0 c =
    let s = c.args in
    by-refusal s.edition s.warning s.place _ c.fields_of.ensures _ _ _ c.in-Converted.is c.place_record-contents.ensures c.record_refusal-number.ensures c.if-number-ne0.true

pub returns-else-number-ne0 : goal.returns-else-number-ne0
returns-else-number-ne0 c =
    let s = c.args in
    by-record s.edition s.warning s.place _ c.fields_of.ensures _ _ _ c.in-Converted.is c.place_record-contents.ensures c.record_refusal-number.ensures c.if-number-ne0.false

pub returns-in-Refused : goal.returns-in-Refused
returns-in-Refused c =
    let s = c.args in
    by_place s.edition s.warning s.place _ c.fields_of.ensures _ c.in-Refused.is
