-- `lanes::at_least_nine` meets its contract: the adders' equations add up. Assumes nothing.
use mathlib.Core.List.{[], ◌∷◌}
use native.Mathlib.Omega.{arith}
use Rattle.lanes.specs.Lane.{set_in}
use Rattle.lanes.proofs.Adders.{lane-nine}
use Rattle.lanes.proofs.at_least_nine.Goals as goal

pub returns : goal.returns
returns c i =
    let x = c.args in
    let xs = x.x0 ∷ x.x1 ∷ x.x2 ∷ x.x3 ∷ x.x4 ∷ x.x5 ∷ x.x6 ∷ x.x7 ∷ x.x8 ∷ x.x9 ∷ x.x10 ∷ x.x11 ∷ x.x12 ∷ x.x13 ∷ x.x14 ∷ x.x15 ∷ x.x16 ∷ [] in
    lane-nine c.full_adder-ones.result.sum c.half_adder-twos.result.sum c.half_adder-fours.result.sum c.half_adder-eights.result.sum c.half_adder-eights.result.carry i (set_in i xs)
    (omega (arith, c.full_adder-a.ensures i, c.full_adder-b.ensures i, c.full_adder-c.ensures i, c.full_adder-d.ensures i, c.full_adder-e.ensures i, c.full_adder-f.ensures i, c.full_adder-g.ensures i, c.full_adder-ones.ensures i, c.full_adder-h.ensures i, c.full_adder-k.ensures i, c.full_adder-l.ensures i, c.half_adder-twos.ensures i, c.full_adder-m.ensures i, c.half_adder-fours.ensures i, c.half_adder-eights.ensures i))
