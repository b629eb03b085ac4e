-- `dsc_words::put_eight` meets its contract: what has been stored are the first i bytes of n. Assumes nothing.
use mathlib.Core.Path.{◌≡◌, sym, ap, ap₂, ◌∙◌}
use Prim.Native.Nat.{◌+◌}
use native.Mathlib.Omega.{arith}
use lib.ListN.{take, set}
use lib.Seq.{sets, take_all}
use Rattle.bits.specs.Bits.{bits_of, bytes}
use Rattle.bits.proofs.Bits.{length-bytes}
use Rattle.bits.proofs.Slices.{sets-next}
use Rattle.dsc_words.proofs.Loading.{word_byte}
use Rattle.dsc_words.proofs.put_eight.Goals as goal

pub loop-i-preserved : goal.loop-i-preserved
loop-i-preserved c =
    let s = c.args in
    let i = c.loop-i.i in
    let all = bytes 8 (bits_of 64 s.n) in
    ap₂ (λ o v. set o (s.at + i) v) c.loop-i.invariant (c.low_byte.ensures ∙ sym (word_byte s.n i (omega arith)))
    ∙ sets-next s.out.now all s.at i (omega (arith, length-bytes 8 (bits_of 64 s.n)))

pub returns : goal.returns
returns c =
    let s = c.args in
    let i = c.loop-i.i in
    let all = bytes 8 (bits_of 64 s.n) in
    c.loop-i.invariant
    ∙ ap (sets s.out.now s.at)
    (ap (λ k. take k all) (let e : i ≡ 8 = omega arith in e) ∙ take_all 8 all (omega (arith, length-bytes 8 (bits_of 64 s.n))))
