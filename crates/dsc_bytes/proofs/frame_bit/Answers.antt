-- `dsc_bytes::frame_bit` meets its contract. Assumes nothing.
use mathlib.Core.Path.{◌≡◌, ap, ◌∙◌}
use Prim.Native.Nat.{◌+◌, ◌*◌, ◌/◌, ◌%◌}
use native.Mathlib.Omega.{arith}
use lib.Dec.{eqb}
use Rattle.dsc_bits.specs.Words.{at}
use Rattle.bits.specs.Bits.{bits}
use Rattle.dsc_bytes.proofs.Frames.{digit_set}
use Rattle.dsc_bytes.proofs.frame_bit.Goals as goal

pub returns : goal.returns
returns c =
    let a = c.args in
    let k : 8 * (a.k / 8) + a.k % 8 ≡ a.k = omega arith in
    ap (λ n. eqb n 1) c.bit.ensures ∙ digit_set _ ∙ ap (at (bits a.f.now)) k
