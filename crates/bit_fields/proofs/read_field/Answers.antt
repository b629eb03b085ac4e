use mathlib.Core.Path.{◌≡◌, ◌∙◌, ap, sym, refl}
use mathlib.Core.List.{[]}
use Prim.Native.Nat.{ℕ, ◌+◌, ◌-◌, ◌*◌, ◌/◌, ◌%◌, ◌^◌, ◌<◌}
use native.Mathlib.Omega.{arith}
use lib.Pow.{pow_mono, shl_exact}
use lib.ListN.{drop}
use Rattle.bits.specs.Bits.{value, bits}
use Rattle.bits.specs.Field.{field_at}
use Rattle.bits.proofs.Bits.{value-take-lt}
use Rattle.bits.proofs.Field.{field-add}
use Rattle.bit_fields.proofs.read_field.Goals as goal
use Rattle.bit_fields.proofs.read_field.Goals.{After-read_part-part}

empty : ◌≡◌ {A = ℕ} 0 (value [])
unfolding value
empty = refl

pub loop-i-init : goal.loop-i-init
loop-i-init c = (omega arith, empty)

pub read_part-part-requires : goal.read_part-part-requires
read_part-part-requires c = (omega arith, omega arith)

-- the i bits read are the high ones, the n of this turn the low ones
next : (c : After-read_part-part)
    → c.loop-i.v * 2 ^ c.smaller-n.result % 2 ^ 64 + c.read_part-part.result
    ≡ field_at c.args.s.now c.args.at (c.loop-i.i + c.smaller-n.result)
next c =
    let a = c.args in
    let s = a.s.now in
    let n = c.smaller-n.result in
    let e : 8 * (a.at / 8 + (a.at % 8 + c.loop-i.i) / 8) + (a.at % 8 + c.loop-i.i) % 8 ≡ a.at + c.loop-i.i = omega arith in
    let m : c.loop-i.v * 2 ^ n % 2 ^ 64 ≡ c.loop-i.v * 2 ^ n = shl_exact c.loop-i.i n 64 (rw c.loop-i.invariant.1 (value-take-lt c.loop-i.i (drop a.at (bits s)))) (omega arith) in
    rw (m, c.read_part-part.ensures, e, c.loop-i.invariant.1) (sym (field-add s a.at c.loop-i.i n (omega arith)))

fits : (c : After-read_part-part)
    → c.loop-i.v * 2 ^ c.smaller-n.result % 2 ^ 64 + c.read_part-part.result < 2 ^ 64
fits c =
    let a = c.args in
    let w = c.loop-i.i + c.smaller-n.result in
    omega (arith, next c, value-take-lt w (drop a.at (bits a.s.now)), pow_mono {i = w} {j = 64} (omega arith))

pub overflow_add-v : goal.overflow_add-v
overflow_add-v c = omega (arith, fits (goal.at.overflow_add-v c).After-read_part-part)

pub loop-i-preserved : goal.loop-i-preserved
loop-i-preserved c = (omega arith, next (goal.at.loop-i-preserved c).After-read_part-part)

pub returns : goal.returns
returns c =
    let a = c.args in
    let e : c.loop-i.i ≡ a.width = omega arith in
    c.loop-i.invariant.1 ∙ ap (λ (k : ℕ). field_at a.s.now a.at k) e
