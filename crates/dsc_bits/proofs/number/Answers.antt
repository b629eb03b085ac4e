-- `dsc_bits::number` meets its contract: a bit at each turn. Assumes nothing.
use mathlib.Core.Path.{◌≡◌, refl, sym, ap, ap₂, ◌∙◌}
use Prim.Native.Nat.{◌<◌, ◌-◌, ◌+◌, ◌*◌, ◌^◌}
use native.Mathlib.Nat.{lt_of_lt_of_le}
use native.Mathlib.Omega.{arith}
use lib.ListN.{take, drop}
use lib.Pow.{pow_mono}
use Rattle.bits.specs.Bits.{value}
use Rattle.bits.proofs.Bits.{value-take-lt}
use Rattle.dsc_bits.proofs.Octets.{value-next}
use Rattle.dsc_bits.proofs.number.Goals as goal
use Rattle.dsc_bits.proofs.number.Goals.{In-loop-i}

pub loop-i-init : goal.loop-i-init
unfolding value
loop-i-init c = (omega arith, refl)

small : (c : In-loop-i) → c.loop-i.v < 2 ^ 63
small c =
    let l = drop c.args.k c.args.b.now in
    omega (arith, c.loop-i.invariant.1, lt_of_lt_of_le (value-take-lt c.loop-i.i l) (pow_mono {j = 63} (omega arith)))

pub overflow_mul-v : goal.overflow_mul-v
overflow_mul-v c = omega (arith, small (goal.at.overflow_mul-v c).In-loop-i)

pub overflow_add-v : goal.overflow_add-v
overflow_add-v c = omega (arith, small (goal.at.overflow_add-v c).In-loop-i)

pub loop-i-preserved : goal.loop-i-preserved
loop-i-preserved c = (
  omega arith,
  ap₂ (λ x y. x * 2 + y) c.loop-i.invariant.1 c.one.ensures.0 ∙ sym (value-next c.args.b.now c.args.k c.loop-i.i (omega arith)),
)

pub returns : goal.returns
returns c =
    let full : c.loop-i.i ≡ c.args.n = omega arith in
    c.loop-i.invariant.1 ∙ ap (λ m. value (take m (drop c.args.k c.args.b.now))) full
