-- `abi_laying::take_out` meets its contract: the number and the header are those of `header_inserter::take_out`. `search` finds this too; the file is here so that a wrong
-- answer is refused by the fact that fails. Assumes nothing.
use mathlib.Core.Path.{◌≡◌, ◌∙◌, ap}
use Prim.Native.Nat.{ℕ}
use Rattle.abi.specs.Status.{status_of}
use Rattle.abi_laying.proofs.take_out.Goals as goal

pub returns : goal.returns
returns c =
    let told : c.status.result ≡ status_of c.take_out.result 0 = c.status.ensures in
    record { status = told ∙ ap (λ (n : ℕ). status_of n 0) c.take_out.ensures.number; header = c.take_out.ensures.header }
