-- `dsc_bytes::octet` meets its contract: a bit of the byte at each turn. Assumes nothing.
use mathlib.Core.Path.{refl, sym, ap₂, ◌∙◌}
use Prim.Native.Nat.{◌<◌, ◌+◌, ◌*◌}
use native.Mathlib.Omega.{arith}
use lib.ListN.{drop}
use Rattle.bits.specs.Bits.{value}
use Rattle.dsc_bytes.specs.Padded.{padded}
use Rattle.dsc_bits.proofs.Octets.{value-next}
use Rattle.dsc_bytes.proofs.Frames.{value-small, length-padded}
use Rattle.dsc_bytes.proofs.octet.Goals as goal
use Rattle.dsc_bytes.proofs.octet.Goals.{In-loop-i}

pub loop-i-init : goal.loop-i-init
unfolding value
loop-i-init c = (omega arith, refl)

small : (c : In-loop-i) → c.loop-i.v < 128
small c =
    omega (arith, c.loop-i.invariant.1, value-small (drop (8 * c.args.j) (padded c.args.w.now)) c.loop-i.i (omega arith))

pub overflow_mul-v : goal.overflow_mul-v
overflow_mul-v c = omega (arith, small (goal.at.overflow_mul-v c).In-loop-i)

pub overflow_add-v : goal.overflow_add-v
overflow_add-v c = omega (arith, small (goal.at.overflow_add-v c).In-loop-i)

pub loop-i-preserved : goal.loop-i-preserved
loop-i-preserved c =
    let w = c.args.w.now in
    let k = 8 * c.args.j in (
      omega arith,
      ap₂ (λ x y. x * 2 + y) c.loop-i.invariant.1 c.padded_bit.ensures.0
          ∙ sym (value-next (padded w) k c.loop-i.i (omega (arith, length-padded w c.requires.0))),
    )
