-- `frame_bodies::span_of` meets its contract. Assumes nothing.
use Rattle.frame.specs.Body.{row}
use Rattle.frame.specs.Span.{span_of}
use mathlib.Core.Path.{ap, sym}
use Rattle.frame_bodies.proofs.span_of.Goals as goal

pub returns-in-AreaPage : goal.returns-in-AreaPage
unfolding row span_of
returns-in-AreaPage c = ap span_of (sym c.in-AreaPage.is)

pub returns-in-PlacePage : goal.returns-in-PlacePage
unfolding row span_of
returns-in-PlacePage c = ap span_of (sym c.in-PlacePage.is)

pub returns-in-CancelPage : goal.returns-in-CancelPage
unfolding row span_of
returns-in-CancelPage c = ap span_of (sym c.in-CancelPage.is)

pub returns-in-SafetyDetails : goal.returns-in-SafetyDetails
unfolding row span_of
returns-in-SafetyDetails c = ap span_of (sym c.in-SafetyDetails.is)

pub returns-in-NoInformation : goal.returns-in-NoInformation
unfolding row span_of
returns-in-NoInformation c = ap span_of (sym c.in-NoInformation.is)
