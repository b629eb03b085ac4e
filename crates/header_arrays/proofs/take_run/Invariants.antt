use Rattle.std.proofs.Common.{◌≡◌, ◌++◌, ◌+◌, ◌*◌, drop}
use Rattle.header.specs.Fields.{run}
use Rattle.header_arrays.proofs.take_run.Given as goal

-- `header_arrays::take_run` meets its contract. Assumes nothing.
abbrev pub invariant-loop-value : goal.invariant-loop-value
invariant-loop-value l =
    record { place : l.at ≡ l.k + l.d * l.value-index; taken : l.out ≡ run l.v l.k l.d l.value-index ++ drop l.value-index l.initial.out }
