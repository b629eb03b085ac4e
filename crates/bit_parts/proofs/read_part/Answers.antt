use mathlib.Core.Path.{◌≡◌, ◌∙◌, sym}
use Prim.Native.Nat.{◌-◌, ◌/◌, ◌%◌, ◌^◌}
use native.Mathlib.Omega.{arith}
use lib.ListN.{get_or}
use Rattle.bits.proofs.Field.{field-part}
use Rattle.bit_parts.proofs.read_part.Goals as goal

pub overflow_cast-s : goal.overflow_cast-s
overflow_cast-s c = omega (arith, c.type_inv.s c.args.q)

pub returns : goal.returns
returns c =
    let a = c.args in
    let p = c.requires in
    let v : c.low_bits.result ≡ get_or a.s.now a.q 0 / 2 ^ (8 - a.r - a.n) % 2 ^ a.n = c.low_bits.ensures in
    v ∙ sym (field-part a.s.now a.q a.r a.n p.0 p.1)
