-- `crc10::feed10` meets its contract. Assumes nothing.
use mathlib.Core.Path.{ap, ◌∙◌}
use Prim.Native.Nat.{◌-◌, ◌*◌, ◌/◌, ◌%◌, ◌<◌, ◌^◌}
use native.Mathlib.Nat.{lt_of_lt_of_le}
use native.Mathlib.Omega.{arith}
use lib.Bits.{bit_xor}
use lib.Dec.{lit<}
use lib.Pow.{mod-mod-pow, pow_mono}
use Rattle.crc.specs.Crc.{g10}
use Rattle.crc.proofs.Crc.{length-g10}
use Rattle.crc.proofs.Table.{remainder-lt}
use Rattle.crc.proofs.Turn.{index-lt, turn}
use Rattle.crc10.proofs.feed10.Goals as goal
use Rattle.crc10.proofs.feed10.Goals.{Start}

index : (c : Start) → bit_xor (c.args.r / 2 ^ (10 - c.args.k)) c.args.v < 256
index c =
    let a = c.args in
    let p = c.requires in
    lt_of_lt_of_le (index-lt a.r a.v 10 (10 - a.k) a.k (omega arith) p.0 p.2) (pow_mono {i = a.k} {j = 8} p.1)

pub overflow_cast-i-2 : goal.overflow_cast-i-2
overflow_cast-i-2 c = omega (arith, index (goal.at.overflow_cast-i-2 c).Start)

pub overflow_cast-result-2 : goal.overflow_cast-result-2
overflow_cast-result-2 c =
    let a = c.args in
    omega (arith, c.remainder10.ensures, rw length-g10 at (remainder-lt g10 0 (bit_xor (a.r / 2 ^ (10 - a.k)) a.v)))

pub returns : goal.returns
returns c =
    let a = c.args in
    let p = c.requires in
    ap (λ x. bit_xor x c.remainder10.result) (mod-mod-pow (a.r * 2 ^ a.k) 6 10)
    ∙ ap (bit_xor (a.r * 2 ^ a.k % 1024)) c.remainder10.ensures
    ∙ turn a.r a.v 10 (10 - a.k) a.k (omega arith) p.0 p.2 g10 length-g10 (lit< tt) p.1
