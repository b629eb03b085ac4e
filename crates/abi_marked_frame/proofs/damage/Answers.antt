-- `abi_marked_frame::damage` meets its contract. Assumes nothing.
use mathlib.Core.Path.{ap}
use Prim.Native.Nat.{ℕ, ◌+◌, ◌*◌}
use Rattle.abi_marked_frame.proofs.damage.Goals as goal

pub returns : goal.returns
returns c = ap (λ (n : ℕ). n + 65536 * c.args.differing) c.status.ensures
