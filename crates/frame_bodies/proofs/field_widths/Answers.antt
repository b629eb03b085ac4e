-- `frame_bodies::field_widths` meets its contract. Assumes nothing.
use Rattle.bits.specs.Segment.{free_widths}
use Rattle.frame.specs.Body.{row, layout}
use Rattle.frame.specs.Fields.{scatter, field_widths}
use mathlib.Core.Path.{ap, sym}
use Rattle.frame_bodies.proofs.field_widths.Goals as goal

pub returns-in-AreaPage : goal.returns-in-AreaPage
unfolding row layout scatter field_widths free_widths
returns-in-AreaPage c = ap field_widths (sym c.in-AreaPage.is)

pub returns-in-PlacePage : goal.returns-in-PlacePage
unfolding row layout scatter field_widths free_widths
returns-in-PlacePage c = ap field_widths (sym c.in-PlacePage.is)

pub returns-in-CancelPage : goal.returns-in-CancelPage
unfolding row layout scatter field_widths free_widths
returns-in-CancelPage c = ap field_widths (sym c.in-CancelPage.is)

pub returns-in-SafetyDetails : goal.returns-in-SafetyDetails
unfolding row layout scatter field_widths free_widths
returns-in-SafetyDetails c = ap field_widths (sym c.in-SafetyDetails.is)

pub returns-in-NoInformation : goal.returns-in-NoInformation
unfolding row layout scatter field_widths free_widths
returns-in-NoInformation c = ap field_widths (sym c.in-NoInformation.is)
