use mathlib.Core.Path.{◌≡◌}
use Prim.Native.Nat.{◌≤◌, ◌*◌}
use lib.ListN.{take, drop}
use Rattle.bits.specs.Bits.{value}
use Rattle.dsc_bytes.specs.Padded.{padded}
use Rattle.dsc_bytes.proofs.octet.Given as goal

-- `dsc_bytes::octet` meets its contract: a bit of the byte at each turn. Assumes nothing.
abbrev pub invariant-loop-i : goal.invariant-loop-i
invariant-loop-i l = (l.i ≤ 8) × (l.v ≡ value (take l.i (drop (8 * l.j) (padded l.w))))
