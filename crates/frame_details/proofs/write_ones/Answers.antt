-- `frame_details::write_ones` meets its contract. Assumes nothing.
use Prim.Native.Nat.{◌*◌}
use lib.Pow.{pow_pos}
use native.Mathlib.Omega.{arith}
use Rattle.frame_details.proofs.Spans.{bounded}
use Rattle.frame_details.proofs.Writing.{ones-put}
use Rattle.frame_details.proofs.write_ones.Goals as goal

pub overflow_mul-before : goal.overflow_mul-before
overflow_mul-before c = let h = bounded _ c.span_of-span.ensures in omega (arith, h.before, h.after, h.ordered, h.within)

pub pow2-requires : goal.pow2-requires
pow2-requires c = let h = bounded _ c.span_of-span.ensures in omega (arith, h.before, h.after, h.ordered, h.within)

pub overflow_sub-pow2 : goal.overflow_sub-pow2
overflow_sub-pow2 c = omega (arith, c.pow2.ensures, pow_pos (8 * c.span_of-span.result.before))

pub overflow_sub-after : goal.overflow_sub-after
overflow_sub-after c = let h = bounded _ c.span_of-span.ensures in omega (arith, h.before, h.after, h.ordered, h.within)

pub pow2-requires-2 : goal.pow2-requires-2
pow2-requires-2 c = let h = bounded _ c.span_of-span.ensures in omega (arith, h.before, h.after, h.ordered, h.within)

pub overflow_sub-pow2-2 : goal.overflow_sub-pow2-2
overflow_sub-pow2-2 c = omega (arith, c.pow2-2.ensures, pow_pos c.span_of-span.result.after)

pub returns : goal.returns
returns c = ones-put c.args.body c.args.part.now c.span_of-span.ensures c.pow2.ensures c.put.ensures c.pow2-2.ensures c.put-2.ensures
