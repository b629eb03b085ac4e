use mathlib.Core.Path.{◌∙◌}
use native.Mathlib.Omega.{arith}
use lib.ListN.{get_or}
use Rattle.bits.proofs.Field.{field-part, Replaced, replaced, bits-replaced}
use Rattle.bit_parts.proofs.write_part.Goals as goal
use Rattle.bit_parts.proofs.write_part.Goals.{After-slice_known-2-1}

pub overflow_cast-s : goal.overflow_cast-s
overflow_cast-s c = omega (arith, c.slice_known-2-1.given c.args.q)

known : (c : After-slice_known-2-1)
    → Replaced (get_or c.args.s.now c.args.q 0)
    c.args.r c.args.n
    c.args.v c.read_part-old.result c.low_bits-new.result c.pow2-weight.result
known c =
    let a = c.args in
    let p = c.requires in
    let x = get_or a.s.now a.q 0 in
    replaced x a.r a.n a.v c.read_part-old.result c.low_bits-new.result c.pow2-weight.result (omega (arith, c.slice_known-2-1.given a.q)) p.1
    (c.read_part-old.ensures ∙ field-part a.s.now a.q a.r a.n p.0 p.1)
    c.low_bits-new.ensures c.pow2-weight.ensures

pub overflow_mul-s : goal.overflow_mul-s
overflow_mul-s c = omega (arith, known (goal.at.overflow_mul-s c).After-slice_known-2-1, c.slice_known-2-1.given c.args.q)

pub overflow_sub-s : goal.overflow_sub-s
overflow_sub-s c = (known (goal.at.overflow_sub-s c).After-slice_known-2-1).below

pub overflow_mul-s-2 : goal.overflow_mul-s-2
overflow_mul-s-2 c = omega (arith, known (goal.at.overflow_mul-s-2 c).After-slice_known-2-1)

pub overflow_add-s : goal.overflow_add-s
overflow_add-s c = omega (arith, known (goal.at.overflow_add-s c).After-slice_known-2-1)

pub overflow_cast-s-2 : goal.overflow_cast-s-2
overflow_cast-s-2 c = record { fits = (known (goal.at.overflow_cast-s-2 c).After-slice_known-2-1).small }

pub returns : goal.returns
returns c =
    let a = c.args in
    let p = c.requires in
    bits-replaced a.s.now a.q a.r a.n a.v c.read_part-old.result c.low_bits-new.result c.pow2-weight.result p.0 p.1 (known (goal.at.returns c).After-slice_known-2-1)
