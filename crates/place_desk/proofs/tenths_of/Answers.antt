-- `place_desk::tenths_of` meets its contract. Assumes nothing.
use Rattle.std.proofs.Common.{arith, ◌∙◌}
use Rattle.place.proofs.Equality.{passes}
use Rattle.place.proofs.Inverse.{tenths-inverse}
use Rattle.place.proofs.Search.{beyond, compared}
use Rattle.place_desk.proofs.tenths_of.Goals as goal

pub returns-then-limit-n : goal.returns-then-limit-n
returns-then-limit-n c =
    beyond (tenths-inverse _ c.requires _) _ (passes c.well_formed.1.1.0.1) _ c.tenths_near-n.ensures c.if-limit-n.true

pub returns : goal.returns
returns c =
    c.then_some.ensures ∙ compared (tenths-inverse _ c.requires _) _ (passes c.well_formed.1.1.0.1) _ c.tenths_near-n.ensures c.degrees.ensures c.same_bits.ensures (omega arith)
