use mathlib.Core.Path.{sym, ap}
use Prim.Native.Nat.{ℕ, ◌-◌, ◌^◌}
use native.Mathlib.Omega.{arith}
use lib.Dec.{eqb}
use lib.Pow.{pow-lt, pow_pos}
use borrow.Author.Tests.{ne_eqb}
use Rattle.bit_layouts.proofs.all_ones.Goals as goal

pub returns-then-w-gt64 : goal.returns-then-w-gt64
returns-then-w-gt64 c =
    let a = c.args in
    sym (ne_eqb a.v (2 ^ a.w - 1) (λ e. omega (arith, pow-lt {i = 64} {j = a.w} c.if-w-gt64.true)))

pub returns-then-w-eq64 : goal.returns-then-w-eq64
returns-then-w-eq64 c = ap (λ (k : ℕ). eqb c.args.v (2 ^ k - 1)) (sym c.if-w-eq64.true)

pub overflow_sub-result : goal.overflow_sub-result
overflow_sub-result c = omega (arith, c.pow2.ensures, pow_pos c.args.w)

pub returns : goal.returns
returns c = ap (λ (k : ℕ). eqb c.args.v (k - 1)) c.pow2.ensures
