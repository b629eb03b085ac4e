-- `place_desk::depth_of` meets its contract. Assumes nothing.
use Rattle.std.proofs.Common.{arith, ◌∙◌}
use Rattle.place.proofs.Equality.{passes}
use Rattle.place.proofs.Inverse.{kilometres-inverse}
use Rattle.place.proofs.Search.{beyond, compared}
use Rattle.place_desk.proofs.depth_of.Goals as goal

pub returns-then-n-gt-DEEPEST : goal.returns-then-n-gt-DEEPEST
returns-then-n-gt-DEEPEST c =
    beyond kilometres-inverse _ (passes c.well_formed.0.1) _ c.whole_part-n.ensures c.if-n-gt-DEEPEST.true

pub returns : goal.returns
returns c =
    c.then_some.ensures ∙ compared kilometres-inverse _ (passes c.well_formed.0.1) _ c.whole_part-n.ensures c.kilometres.ensures c.same_bits.ensures (omega arith)
