-- `capture::part` meets its contract. Assumes nothing.
use mathlib.Core.Path.{◌≡◌, refl, ap}
use Prim.Native.Nat.{ℕ, ◌+◌, ◌*◌, ◌-◌}
use native.Mathlib.Omega.{arith}
use lib.ListN.{take, drop}
use Rattle.capture.proofs.part.Goals as goal

pub returns : goal.returns
returns c =
    let n = c.args.n in
    let wide : (26 * n + 26) - 26 * n ≡ 26 = omega arith in
    record { bytes = ap (λ (k : ℕ). take k (drop (26 * n) c.args.capture.now)) wide; place = refl }
