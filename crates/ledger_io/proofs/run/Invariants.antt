-- A turn after which something is wanted has counted more frames.
use Rattle.std.proofs.Common.{◌≡◌, ◌+◌, ◌-◌, ◌≤◌, IfSome, length, min}
use Rattle.ledger_input.specs.Input.{Standing}
use Rattle.ledger_io.proofs.Text.{SoFar}
use Rattle.ledger_io.proofs.run.Given as goal

abbrev pub invariant-loop-turn : goal.invariant-loop-turn
invariant-loop-turn g l =
    (length l.input ≡ 65536) × (l.turn.wanted ≤ 65520) × Standing l.turn
    × IfSome (g.R.Read.remaining l.initial.from) (λ s. SoFar l.edition s (g.R.Read.remaining l.from) l.turn)

abbrev pub decreases-loop-turn : goal.decreases-loop-turn
decreases-loop-turn g l = 4000000 - l.turn.ledger.seen + min l.turn.wanted 1
