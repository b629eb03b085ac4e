-- Places over plain numbers. What each function returns, and what it leaves in its buffer s. Assumes nothing.
use Rattle.std.specs.Prelude.{cond, List, ℕ, eqb, length, Float}
use Rattle.abi_record.specs.Values.{value_count, record_at}
use Rattle.frame.specs.declared.Edition.{Edition}
use Rattle.place.specs.Desk.{conversion_of, conversion_number, conversion_fields}
use Rattle.place.specs.declared.Conversion.{Conversion}
use Rattle.report.specs.Report.{report_of, report_number, report_doubles}
use Rattle.report.specs.declared.Reported.{Reported}
use Rattle.report.specs.declared.Reported.TheVariants.{Place, Cancellation, AreasOnly, Nothing, Safety, Refused}
use Rattle.abi.specs.Status.{status_of}

-- the case of a report: 0 nothing, 1 place, 2 cancellation, 3 areas only, 4 area safety information
abbrev pub report_case : Reported → ℕ
report_case (Place n m d) = 1
report_case Cancellation = 2
report_case AreasOnly = 3
report_case Nothing = 0
report_case Safety = 4
report_case (Refused n) = 0

-- a record of another length than it has values, or a place of another length than 3, is 1
unfoldable pub report_status : Edition → (v : List ℕ) (s : List Float) → ℕ
report_status ed v s =
    cond (eqb (length v) value_count)
    (cond (eqb (length s) 3) (status_of (report_number (report_of ed (record_at v))) (report_case (report_of ed (record_at v)))) (status_of 1 0)) (status_of 1 0)

-- latitude, longitude and depth, of a place alone
abbrev pub doubles_of : Reported → List Float → List Float
doubles_of a s = cond (eqb (report_case a) 1) (report_doubles a) s

unfoldable pub report_place : Edition → (v : List ℕ) → List Float → List Float
report_place ed v s = cond (eqb (length v) value_count) (cond (eqb (length s) 3) (doubles_of (report_of ed (record_at v)) s) s) s

-- the fields of a place that the desk converts
abbrev pub converted_fields : Conversion → List ℕ → List ℕ
converted_fields c s = cond (eqb (conversion_number c) 0) (conversion_fields c) s

-- the desk's place: fields of another length than 5 are 1
unfoldable pub desk_status : (latitude longitude depth : Float) → List ℕ → ℕ
desk_status n m d s =
    cond (eqb (length s) 5) (status_of (conversion_number (conversion_of (record { latitude = n; longitude = m; depth = d }))) 0) (status_of 1 0)

-- south, latitude, west, longitude, depth
unfoldable pub desk_fields : (latitude longitude depth : Float) → List ℕ → List ℕ
desk_fields n m d s = cond (eqb (length s) 5) (converted_fields (conversion_of (record { latitude = n; longitude = m; depth = d })) s) s
