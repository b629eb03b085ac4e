-- `header_reader::crc_wrong` meets its contract. Assumes nothing.
use mathlib.Core.Path.{◌≡◌, ◌∙◌, ap}
use mathlib.Core.Bool.{not}
use native.Mathlib.Omega.{arith}
use lib.Dec.{eqb}
use lib.ListN.{take, drop, length-drop}
use lib.Seq.{take_all}
use Rattle.bits.specs.Bits.{bits}
use Rattle.crc.specs.Crc.{crc32_of}
use Rattle.header.specs.Tests.{crc_wrong}
use Rattle.header_reader.proofs.crc_wrong.Goals as goal

pub returns : goal.returns
unfolding crc_wrong
returns c =
    let h = c.args.h.now in
    let t : take 184 (drop 4 h) ≡ drop 4 h = take_all 184 (drop 4 h) (simp length-drop (omega (arith, c.requires))) in
    let e : c.crc32.result ≡ crc32_of (bits (take 184 (drop 4 h))) = c.crc32.ensures in
    ap (λ n. not (eqb n 0)) (e ∙ ap (λ s. crc32_of (bits s)) t)
