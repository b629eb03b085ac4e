-- `crc32::crc32` meets its contract: after the whole groups the register is the CRC of the bytes passed. Assumes nothing.
use Rattle.std.proofs.Common.{◌≡◌, sym, ap, ◌∙◌, ◌++◌, ◌+◌, ◌*◌, ◌/◌, arith, get_or, take, length, suc, length-drop, ◌<◌, ◌%◌, ◌-◌, drop}
use Rattle.std.proofs.lemmas.List.{get_or-drop}
use Rattle.std.proofs.Math.Seq.{take-suc}
use Rattle.bits.specs.Bits.{bits, bits_of}
use Rattle.bits.proofs.Bits.{bits-snoc}
use Rattle.crc.specs.Crc.{crc32_of}
use Rattle.crc.proofs.Crc.{crc32-turn}
use Rattle.crc32.proofs.crc32.Goals as goal

pub loop-byte-preserved : goal.loop-byte-preserved
loop-byte-preserved c =
    let s = c.args.s.now in
    let j = c.loop-byte.byte-index in
    let n = length s / 8 * 8 in
    let tail : c.remainder-tail.result.now ≡ drop (length s - length s % 8) s = c.remainder-tail.ensures ∙ c.chunks_exact.ensures.remainder in
    let inside : n + j < length s = omega (arith, c.loop-byte-test.true, ap length tail, length-drop (length s - length s % 8) s) in
    let first : length s - length s % 8 ≡ n = omega arith in
    let byte : get_or c.remainder-tail.result.now j 0 ≡ get_or s (n + j) 0 =
    ap (λ l. get_or l j 0) tail ∙ get_or-drop (length s - length s % 8) s j 0 ∙ ap (λ k. get_or s (k + j) 0) first in
    let next : n + (j + 1) ≡ suc (n + j) = omega arith in
    let more : bits (take (n + (j + 1)) s) ≡ bits (take (n + j) s) ++ bits_of 8 (get_or s (n + j) 0) =
    ap (λ k. bits (take k s)) next ∙ ap bits (take-suc s (n + j) 0 inside) ∙ bits-snoc (take (n + j) s) (get_or s (n + j) 0) in
    c.feed_byte-r.ensures
    ∙ crc32-turn (bits (take (n + j) s)) (bits_of 8 (get_or c.remainder-tail.result.now j 0)) c.loop-byte.r c.loop-byte.invariant
    ∙ ap (λ b. crc32_of (bits (take (n + j) s) ++ bits_of 8 b)) byte
    ∙ ap crc32_of (sym more)
