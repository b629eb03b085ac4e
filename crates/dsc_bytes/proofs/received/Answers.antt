-- `dsc_bytes::received` meets its contract. Assumes nothing.
use mathlib.Core.Path.{◌≡◌, sym, ◌∙◌}
use Prim.Native.Nat.{◌+◌}
use native.Mathlib.Omega.{arith}
use Rattle.bits.specs.Bits.{bits}
use Rattle.dsc.specs.Repair.{protected}
use Rattle.dsc_bits.specs.Words.{at}
use Rattle.dsc.proofs.Answers.{length-protected}
use Rattle.dsc_bytes.proofs.Frames.{protected-at}
use Rattle.dsc_bits.proofs.Steps.{filled_next, filled-list}
use Rattle.dsc_bytes.proofs.received.Goals as goal

pub loop-n-preserved : goal.loop-n-preserved
loop-n-preserved c =
    let f = c.args.f.now in
    let n = c.loop-n.n in
    let read : c.frame_bit.result ≡ at (bits f) (17 + n) = c.frame_bit.ensures in
    filled_next c.loop-n.invariant (omega arith) (read ∙ sym (protected-at f n (omega arith)))

pub returns : goal.returns
returns c =
    let f = c.args.f.now in
    filled-list (protected f) c.loop-n.invariant (omega arith) (length-protected f c.requires)
