-- `frame_bodies::own_update` meets its contract. Assumes nothing.
use mathlib.Core.Path.{ap, sym}
use Rattle.frame.specs.Body.{own_update}
use Rattle.frame.specs.declared.Body.{Body}
use Rattle.frame_bodies.proofs.own_update.Goals as goal

pub returns-in-AreaPage : goal.returns-in-AreaPage
returns-in-AreaPage c = ap (λ (b : Body). own_update b c.args.update) (sym c.in-AreaPage.is)

pub returns-in-PlacePage : goal.returns-in-PlacePage
returns-in-PlacePage c = ap (λ (b : Body). own_update b c.args.update) (sym c.in-PlacePage.is)

pub returns-in-CancelPage : goal.returns-in-CancelPage
returns-in-CancelPage c = ap (λ (b : Body). own_update b c.args.update) (sym c.in-CancelPage.is)

pub returns-in-SafetyDetails : goal.returns-in-SafetyDetails
returns-in-SafetyDetails c = ap (λ (b : Body). own_update b c.args.update) (sym c.in-SafetyDetails.is)

pub returns-in-NoInformation : goal.returns-in-NoInformation
returns-in-NoInformation c = ap (λ (b : Body). own_update b c.args.update) (sym c.in-NoInformation.is)
