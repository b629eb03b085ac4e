-- `decimals::put_decimal` meets its contract. Assumes nothing.
use Rattle.decimals.proofs.Written.{Written}
use Rattle.decimals.proofs.put_decimal.Given as goal

abbrev pub invariant-loop-place : goal.invariant-loop-place
invariant-loop-place l = Written l.initial.out l.at l.n l.out l.place l.rest
