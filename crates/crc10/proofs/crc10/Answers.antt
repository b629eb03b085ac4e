-- `crc10::crc10` meets its contract: the register is the CRC of the bits passed, and bit o of byte q is the next. Assumes nothing.
use mathlib.Core.Path.{◌≡◌, sym, ap, ap₂, ◌∙◌}
use mathlib.Core.List.{◌++◌}
use Prim.Native.Nat.{◌+◌, ◌-◌, ◌*◌, ◌≤◌}
use native.Mathlib.Nat.{lt_of_lt_of_le}
use native.Mathlib.Omega.{arith}
use lib.ListN.{length, take, drop, length-drop}
use lib.Pow.{pow_mono}
use lib.Seq.{take_all, take-add, drop-drop, length-take-le}
use Rattle.gf2.specs.Register.{feed}
use Rattle.bits.specs.Bits.{value, bits, bits_of}
use Rattle.bits.proofs.Bits.{length-bits, value-take-lt, bits_of-value}
use Rattle.crc.specs.Crc.{g10, crc10_of}
use Rattle.crc.proofs.Crc.{crc10-none, crc10-lt, crc10-turn}
use Rattle.crc10.proofs.crc10.Goals as goal

pub loop-left-init : goal.loop-left-init
loop-left-init c =
    let a = c.args in
    let n : a.count - a.count ≡ 0 = omega arith in
    record {
      some = omega arith;
      bit = omega arith;
      place = omega arith;
      register = sym (ap (λ k. crc10_of (take k (drop a.at (bits a.s.now)))) n ∙ crc10-none);
    }

-- no bit of s is left
pub returns-then-s-q : goal.returns-then-s-q
returns-then-s-q c =
    let a = c.args in
    let b = drop a.at (bits a.s.now) in
    let n = a.count - c.loop-left.left in
    let h : length b ≤ n = rw (length-drop, length-bits) (omega (arith, c.loop-left.invariant.place)) in
    c.loop-left.invariant.register ∙ ap crc10_of (take_all n b h ∙ sym (take_all a.count b (omega arith)))

pub read_part-part-requires : goal.read_part-part-requires
read_part-part-requires c = (omega arith, omega arith)

-- a part has at most eight bits
pub overflow_cast-part : goal.overflow_cast-part
overflow_cast-part c =
    let s = c.args.s.now in
    let k = c.smaller-k.result in
    omega (arith, c.read_part-part.ensures, lt_of_lt_of_le (value-take-lt k (drop (8 * c.loop-left.q + c.loop-left.o) (bits s))) (pow_mono {i = k} {j = 8} (omega arith)))

pub feed10-r-requires : goal.feed10-r-requires
feed10-r-requires c =
    let a = c.args in
    let k = c.smaller-k.result in (
      rw c.loop-left.invariant.register (crc10-lt (take (a.count - c.loop-left.left) (drop a.at (bits a.s.now)))),
      omega arith,
      rw c.read_part-part.ensures (value-take-lt k (drop (8 * c.loop-left.q + c.loop-left.o) (bits a.s.now))),
    )

pub loop-left-preserved : goal.loop-left-preserved
loop-left-preserved c =
    let a = c.args in
    let k = c.smaller-k.result in
    let b = bits a.s.now in
    let run = drop a.at b in
    let n = a.count - c.loop-left.left in
    let p = 8 * c.loop-left.q + c.loop-left.o in
    let x = take k (drop p b) in
    let lx : length x ≡ k = length-take-le k (drop p b) (rw (length-drop, length-bits) (omega arith)) in
    let v : bits_of k c.read_part-part.result ≡ x = ap₂ bits_of (sym lx) c.read_part-part.ensures ∙ bits_of-value x in
    let d : drop n run ≡ drop p b = drop-drop n a.at b ∙ ap (λ i. drop i b) c.loop-left.invariant.place in
    let e : n + k ≡ a.count - (c.loop-left.left - k) = omega arith in
    let m : take n run ++ x ≡ take (a.count - (c.loop-left.left - k)) run =
    ap (λ y. take n run ++ take k y) (sym d) ∙ sym (take-add n k run) ∙ ap (λ i. take i run) e in
    record {
      some = omega arith;
      bit = omega arith;
      place = omega arith;
      register =
          c.feed10-r.ensures
          ∙ ap (λ y. value (feed g10 (bits_of 10 c.loop-left.r) y)) v
          ∙ crc10-turn (take n run) x c.loop-left.r c.loop-left.invariant.register
          ∙ ap crc10_of m;
    }

pub returns : goal.returns
returns c =
    let a = c.args in
    let e : a.count - c.loop-left.left ≡ a.count = omega arith in
    c.loop-left.invariant.register ∙ ap (λ n. crc10_of (take n (drop a.at (bits a.s.now)))) e
