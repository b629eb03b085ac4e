-- `dsc_encoder::shifted_bit` meets its contract. Assumes nothing.
use mathlib.Core.Path.{◌≡◌, sym, ap, ◌∙◌}
use mathlib.Core.Bool.{false}
use mathlib.Core.List.{◌++◌}
use Prim.Native.Nat.{◌+◌, ◌-◌}
use native.Mathlib.Omega.{arith}
use lib.ListN.{length, take, get_or-append}
use lib.Seq.{get_or-append-add, get_or-take, length-take-le}
use Rattle.gf2.specs.Polynomial.{zeros}
use Rattle.dsc_bits.specs.Words.{at}
use Rattle.dsc_bits.proofs.Octets.{zeros-at}
use Rattle.dsc_encoder.proofs.shifted_bit.Goals as goal

pub returns-then-n-lt105 : goal.returns-then-n-lt105
returns-then-n-lt105 c =
    let m = take 105 c.args.w.now in
    sym
    (get_or-append m (zeros 82) false c.args.n (omega (arith, length-take-le 105 c.args.w.now (omega arith)))
    ∙ get_or-take 105 c.args.w.now c.args.n false (omega arith))

pub returns-else-n-lt105 : goal.returns-else-n-lt105
returns-else-n-lt105 c =
    let m = take 105 c.args.w.now in
    let n = c.args.n in
    let l : length m ≡ 105 = length-take-le 105 c.args.w.now (omega arith) in
    sym
    (ap (at (m ++ zeros 82)) (let e : n ≡ length m + (n - 105) = omega arith in e)
    ∙ get_or-append-add m (zeros 82) (n - 105) false
    ∙ zeros-at 82 (n - 105))
