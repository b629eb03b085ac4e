use mathlib.Core.Path.{◌≡◌, ◌∙◌, ap, refl}
use Prim.Native.Nat.{ℕ, ◌+◌, ◌-◌, ◌*◌, ◌/◌, ◌%◌}
use native.Mathlib.Omega.{arith}
use lib.Seq.{paste, paste-zero}
use Rattle.bits.specs.Bits.{bits, bits_of}
use Rattle.bits.proofs.Bits.{length-bits}
use Rattle.bits.proofs.Field.{put_bits-add}
use Rattle.bit_fields.proofs.write_field.Goals as goal

pub loop-i-init : goal.loop-i-init
loop-i-init c =
    let a = c.args in
    (omega arith, refl, paste-zero (bits a.s.now) a.at (bits_of a.width a.v))

pub write_part-requires : goal.write_part-requires
write_part-requires c = (omega arith, omega arith)

pub loop-i-preserved : goal.loop-i-preserved
loop-i-preserved c =
    let a = c.args in
    let n = c.smaller-n.result in
    let e : 8 * (a.at / 8 + (a.at % 8 + c.loop-i.i) / 8) + (a.at % 8 + c.loop-i.i) % 8 ≡ a.at + c.loop-i.i = omega arith in (
      omega arith,
      c.write_part.auto.s ∙ c.loop-i.invariant.1,
      rw (c.write_part.ensures, e, c.loop-i.invariant.2) (put_bits-add (bits a.s.now) a.at a.width a.v c.loop-i.i n (omega (arith, length-bits a.s.now)) (omega arith)),
    )

pub shape_of-s : goal.shape_of-s
shape_of-s c = c.loop-i.invariant.1

pub returns : goal.returns
returns c =
    let a = c.args in
    let e : c.loop-i.i ≡ a.width = omega arith in
    c.loop-i.invariant.2 ∙ ap (λ (k : ℕ). paste (bits a.s.now) a.at (bits_of a.width a.v) k) e
