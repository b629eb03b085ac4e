use mathlib.Core.Path.{◌∙◌, ap, sym}
use Prim.Native.Nat.{◌/◌, ◌-◌, ◌^◌}
use native.Mathlib.Omega.{arith}
use lib.Bits.{and_mask}
use lib.ListN.{get_or}
use Rattle.bits.specs.Bits.{digit}
use Rattle.bits.proofs.Bits.{digit-odd, get_or-bits}
use Rattle.bit_parts.proofs.bit.Goals as goal

pub overflow_cast-result : goal.overflow_cast-result
overflow_cast-result c = omega (arith, c.type_inv.s c.args.q)

pub returns : goal.returns
returns c =
    let a = c.args in
    let p = c.requires in
    let x = get_or a.s.now a.q 0 / 2 ^ (7 - a.r) in
    and_mask x 1 ∙ sym (ap digit (get_or-bits a.s.now a.q a.r p.1 p.0) ∙ digit-odd x)
