-- `report::report_by` meets its contract. Assumes nothing.
use Rattle.frame.specs.declared.Body.TheVariants.{AreaPage, CancelPage, SafetyDetails, NoInformation}
use Rattle.report.proofs.Cases.{body-reported, place-reported}
use Rattle.report.proofs.report_by.Goals as goal

pub returns-in-AreaPage : goal.returns-in-AreaPage
returns-in-AreaPage c = body-reported c.args.message AreaPage c.in-AreaPage.is

pub returns-in-PlacePage : goal.returns-in-PlacePage
returns-in-PlacePage c =
    place-reported c.args.message c.in-PlacePage.is c.degrees.ensures c.degrees-in-PlacePage.ensures c.kilometres.ensures

pub returns-in-CancelPage : goal.returns-in-CancelPage
returns-in-CancelPage c = body-reported c.args.message CancelPage c.in-CancelPage.is

pub returns-in-SafetyDetails : goal.returns-in-SafetyDetails
returns-in-SafetyDetails c = body-reported c.args.message SafetyDetails c.in-SafetyDetails.is

pub returns-in-NoInformation : goal.returns-in-NoInformation
returns-in-NoInformation c = body-reported c.args.message NoInformation c.in-NoInformation.is
