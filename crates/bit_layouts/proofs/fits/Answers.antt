use mathlib.Core.Path.{sym, ap}
use Prim.Native.Nat.{ℕ, ◌^◌}
use native.Mathlib.Omega.{arith}
use lib.Dec.{ltb}
use lib.Pow.{pow_mono}
use borrow.Author.Tests.{lt-ltb}
use Rattle.bit_layouts.proofs.fits.Goals as goal

pub returns-then-w-ge64 : goal.returns-then-w-ge64
returns-then-w-ge64 c =
    let a = c.args in
    sym (lt-ltb a.v (2 ^ a.w) (omega (arith, pow_mono {i = 64} {j = a.w} c.if-w-ge64.true)))

pub returns : goal.returns
returns c = ap (λ (k : ℕ). ltb c.args.v k) c.pow2.ensures
