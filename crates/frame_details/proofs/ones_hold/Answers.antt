-- `frame_details::ones_hold` meets its contract. Assumes nothing.
use native.Mathlib.Omega.{arith}
use Rattle.bits.specs.Bits.{bits}
use Rattle.frame_details.proofs.Spans.{bounded}
use Rattle.frame_details.proofs.Reading.{ones-seen}
use Rattle.frame_details.proofs.ones_hold.Goals as goal

pub overflow_mul-before : goal.overflow_mul-before
overflow_mul-before c = omega (arith, (bounded _ c.span_of-span.ensures).before)

pub read_wide-requires : goal.read_wide-requires
read_wide-requires c =
    let h = bounded _ c.span_of-span.ensures in (omega (arith, h.before), omega (arith, h.before, c.requires))

pub overflow_sub-after : goal.overflow_sub-after
overflow_sub-after c = omega (arith, (bounded _ c.span_of-span.ensures).after)

pub read_wide-requires-2 : goal.read_wide-requires-2
read_wide-requires-2 c =
    let h = bounded _ c.span_of-span.ensures in (omega (arith, h.after), omega (arith, h.after, c.requires))

pub returns : goal.returns
returns c =
    ones-seen c.args.body (bits c.args.details.now) c.span_of-span.ensures c.read_wide.ensures c.all_ones.ensures
    c.read_wide-2.ensures c.all_ones-2.ensures
