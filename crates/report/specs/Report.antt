-- What a record reports (document 01, "The place in degrees"; document 02, a). Assumes nothing.
use Rattle.std.specs.Prelude.{cond, List, [], ◌∷◌, ℕ, eqb, Float}
use Rattle.frame.specs.Fields.{record_body}
use Rattle.frame.specs.Write.{record_refusal}
use Rattle.frame.specs.declared.Edition.{Edition}
use Rattle.frame.specs.declared.Body.{Body}
use Rattle.frame.specs.declared.Body.TheVariants.{AreaPage, PlacePage, CancelPage, SafetyDetails, NoInformation}
use Rattle.frame.specs.declared.Record.{Record}
use Rattle.place.specs.Degrees.{degrees_of, kilometres_of}
use Rattle.report.specs.declared.Reported.{Reported}
use Rattle.report.specs.declared.Reported.TheVariants.{Place, Cancellation, AreasOnly, Nothing, Safety, Refused}

-- by the body of the record
abbrev pub reported_by : Body → Record → Reported
reported_by AreaPage r = AreasOnly
reported_by PlacePage r = Place (degrees_of r.south r.latitude) (degrees_of r.west r.longitude) (kilometres_of r.depth)
reported_by CancelPage r = Cancellation
reported_by SafetyDetails r = Safety
reported_by NoInformation r = Nothing

-- what `report` answers: for a record that is not legal the writer's 6, 10 or 9
unfoldable pub report_of : Edition → Record → Reported
report_of ed r = cond (eqb (record_refusal ed r) 0) (reported_by (record_body ed r) r) (Refused (record_refusal ed r))

-- document 01's number and values of a report: 0 with the latitude, longitude and depth of a place, and none of the others; or the refusal's number
abbrev pub report_number : Reported → ℕ
report_number (Place n m d) = 0
report_number Cancellation = 0
report_number AreasOnly = 0
report_number Nothing = 0
report_number Safety = 0
report_number (Refused n) = n

abbrev pub report_doubles : Reported → List Float
report_doubles (Place n m d) = n ∷ m ∷ d ∷ []
report_doubles Cancellation = []
report_doubles AreasOnly = []
report_doubles Nothing = []
report_doubles Safety = []
report_doubles (Refused n) = []
