-- `decimals::read_digits` meets its contract. Assumes nothing.
use Rattle.decimals.proofs.Readings.{DigitsRead}
use Rattle.decimals.proofs.read_digits.Given as goal

abbrev pub invariant-loop-byte : goal.invariant-loop-byte
invariant-loop-byte l = DigitsRead l.behind l.first l.value l.bytes l.byte-index
