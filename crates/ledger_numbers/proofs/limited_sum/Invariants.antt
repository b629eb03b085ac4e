-- `ledger_numbers::limited_sum` meets its contract. Assumes nothing.
use mathlib.Core.Path.{◌≡◌}
use Prim.Native.Nat.{◌≤◌}
use lib.ListN.{take}
use Rattle.bits.specs.Layout.{sum}
use Rattle.ledger_numbers.proofs.limited_sum.Given as goal

-- the sum of the numbers so far
abbrev pub invariant-loop-count : goal.invariant-loop-count
invariant-loop-count l = (l.total ≡ sum (take l.count-index l.refused)) × (l.total ≤ 4000000)
