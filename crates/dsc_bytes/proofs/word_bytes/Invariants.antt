use lib.ListN.{get_or}
use Rattle.dsc.specs.Repair.{word_bytes}
use Rattle.dsc_bits.proofs.Steps.{Filled}
use Rattle.dsc_bytes.proofs.word_bytes.Given as goal

-- `dsc_bytes::word_bytes` meets its contract. Assumes nothing.
abbrev pub invariant-loop-j : goal.invariant-loop-j
invariant-loop-j l = Filled 0 26 (λ k. get_or (word_bytes l.w) k 0) l.j l.b
