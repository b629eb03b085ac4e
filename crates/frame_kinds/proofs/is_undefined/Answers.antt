-- `frame_kinds::is_undefined` meets its contract. `search` finds this too; the file is here so that another value is refused by the two that differ. Assumes nothing.
use mathlib.Core.Path.{sym, ap}
use Rattle.frame.specs.Identification.{is_undefined}
use Rattle.frame_kinds.proofs.is_undefined.Goals as goal

pub returns-in-Warning : goal.returns-in-Warning
returns-in-Warning c = ap is_undefined (sym c.in-Warning.is)

pub returns-in-SafetyInformation : goal.returns-in-SafetyInformation
returns-in-SafetyInformation c = ap is_undefined (sym c.in-SafetyInformation.is)

pub returns-in-Silent : goal.returns-in-Silent
returns-in-Silent c = ap is_undefined (sym c.in-Silent.is)

pub returns-in-Undefined : goal.returns-in-Undefined
returns-in-Undefined c = ap is_undefined (sym c.in-Undefined.is)
