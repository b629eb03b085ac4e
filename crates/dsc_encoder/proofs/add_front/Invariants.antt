use mathlib.Core.Path.{◌≡◌}
use Prim.Native.Nat.{◌≤◌, ◌-◌}
use lib.ListN.{length, take}
use Rattle.gf2.specs.Polynomial.{add}
use Rattle.dsc_encoder.proofs.add_front.Given as goal

-- `dsc_encoder::add_front` meets its contract. Assumes nothing.
abbrev pub invariant-loop-j : goal.invariant-loop-j
invariant-loop-j l = (l.j ≤ 82) × (length l.v ≡ length l.initial.v) × (l.v ≡ add (take l.j l.g) l.initial.v)

abbrev pub decreases-loop-j : goal.decreases-loop-j
decreases-loop-j l = 82 - l.j
