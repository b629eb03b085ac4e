-- `crc32::feed_byte` meets its contract: the register has taken in the i high bits of the byte. Assumes nothing.
use Rattle.std.proofs.Common.{◌≡◌, sym, ap, ap₂, ◌∙◌, ◌++◌, ◌+◌, ◌-◌, ◌/◌, ◌%◌, ◌^◌, arith}
use lib.Pow.{shr-shr}
use Rattle.gf2.specs.Register.{feed}
use Rattle.bits.specs.Bits.{value, bits_of}
use Rattle.bits.proofs.Bits.{bits_of-add}
use Rattle.crc.specs.Crc.{g32}
use Rattle.lanes.proofs.Number.{bits_of-low}
use Rattle.crc.proofs.Turn.{feed-nothing, feed-more}
use Rattle.crc32.proofs.feed_byte.Goals as goal

pub loop-i-init : goal.loop-i-init
loop-i-init c = sym (feed-nothing g32 32 c.args.r (c.args.b / 2 ^ 8) (omega arith))

pub loop-i-preserved : goal.loop-i-preserved
loop-i-preserved c =
    let a = c.args in
    let i = c.loop-i.i in
    let v = a.b / 2 ^ (7 - i) in
    let above : 8 - i ≡ 7 - i + 1 = omega arith in
    let next : 7 - i ≡ 8 - (i + 1) = omega arith in
    let high : a.b / 2 ^ (8 - i) ≡ v / 2 ^ 1 = ap (λ k. a.b / 2 ^ k) above ∙ sym (shr-shr a.b (7 - i) 1) in
    let passed : bits_of i (a.b / 2 ^ (8 - i)) ++ bits_of 1 (v % 2) ≡ bits_of (i + 1) (a.b / 2 ^ (8 - (i + 1))) =
    ap₂ (λ h b. bits_of i h ++ b) high (bits_of-low 1 v) ∙ sym (bits_of-add i 1 v) ∙ ap (λ k. bits_of (i + 1) (a.b / 2 ^ k)) next in
    c.feed_bit-z.ensures
    ∙ feed-more g32 32 a.r c.loop-i.z (bits_of i (a.b / 2 ^ (8 - i))) (bits_of 1 (v % 2)) c.loop-i.invariant
    ∙ ap (λ x. value (feed g32 (bits_of 32 a.r) x)) passed
