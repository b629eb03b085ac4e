use Rattle.std.proofs.Common.{◌≡◌, ◌*◌, length}
use Rattle.std.proofs.Math.Seq.{paste}
use Rattle.header.specs.Fields.{pairs}
use Rattle.header_arrays.proofs.put_pairs.Given as goal

-- `header_arrays::put_pairs` meets its contract. Assumes nothing.
abbrev pub invariant-loop-i : goal.invariant-loop-i
invariant-loop-i l =
    record { long : length l.out ≡ length l.initial.out; put : l.out ≡ paste l.initial.out l.k (pairs l.s l.t) (2 * l.i) }
