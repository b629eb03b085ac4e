-- `capture::numbers` meets its contract. Assumes nothing.
use mathlib.Core.Path.{ap₂}
use Prim.Native.Nat.{ℕ}
use Rattle.capture.proofs.numbers.Goals as goal

pub returns : goal.returns
returns c = ap₂ (λ (m s : ℕ). record { main = m; spare = s }) c.number.ensures c.number-2.ensures
