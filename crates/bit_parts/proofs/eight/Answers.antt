-- `eight` meets its contract: the bytes so far are a field, the highest bits of the word. Assumes nothing.
use native.Mathlib.Omega.{arith}
use Rattle.bits.proofs.Field.{eight-bytes}
use Rattle.bit_parts.proofs.eight.Goals as goal

pub returns : goal.returns
returns c =
    eight-bytes c.args.s.now c.args.at (omega arith) (λ i. omega (arith, c.shared_slice_known-1.given i)) _ _ _ _ _ _ _ _
    c.wide.ensures
    c.wide-2.ensures
    c.wide-3.ensures
    c.wide-4.ensures
    c.wide-5.ensures
    c.wide-6.ensures
    c.wide-7.ensures
    c.wide-8.ensures
