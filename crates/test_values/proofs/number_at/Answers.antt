-- `test_values::number_at` meets its contract. Assumes nothing.
use mathlib.Core.Path.{◌≡◌, ◌∙◌, ap}
use Prim.Native.Nat.{ℕ, ◌+◌, ◌-◌}
use native.Mathlib.Omega.{arith}
use lib.ListN.{length, take, drop, length-drop}
use lib.Seq.{length-take-le}
use Rattle.bits.specs.Bits.{value, bits}
use Rattle.test_values.proofs.Numbers.{eight-read}
use Rattle.test_values.proofs.number_at.Goals as goal

pub returns : goal.returns
returns c =
    let a = c.args in
    let s = a.s.now in
    let e : a.at + 8 - a.at ≡ 8 = omega arith in
    let l : length (take (a.at + 8 - a.at) (drop a.at s)) ≡ 8 = length-take-le _ (drop a.at s) (omega (arith, length-drop a.at s)) ∙ e in
    c.get.ensures ∙ eight-read _ l ∙ ap (λ (k : ℕ). value (bits (take k (drop a.at s)))) e
