-- `frame_reader::verdict_of` meets its contract. Assumes nothing.
use mathlib.Core.Path.{sym, ap}
use Rattle.frame.specs.Read.{reading_verdict}
use Rattle.frame_reader.proofs.verdict_of.Goals as goal

pub returns-in-Accepted : goal.returns-in-Accepted
returns-in-Accepted c =
    ap reading_verdict (sym c.in-Accepted.is)

pub returns-in-Refused : goal.returns-in-Refused
returns-in-Refused c =
    ap reading_verdict (sym c.in-Refused.is)
