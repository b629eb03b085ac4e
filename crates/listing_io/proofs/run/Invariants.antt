-- A turn after which something is wanted has listed more frames.
use Rattle.std.proofs.Common.{◌≡◌, ◌+◌, ◌-◌, ◌≤◌, IfSome, length, min}
use Rattle.listing_io.proofs.Text.{SoFar}
use Rattle.listing_io.proofs.run.Given as goal

abbrev pub invariant-loop-turn : goal.invariant-loop-turn
invariant-loop-turn g l =
    (length l.input ≡ 65536) × (length l.out ≡ 80672) × (l.turn.wanted ≤ 65520)
    × IfSome (g.R.Read.remaining l.initial.from)
    (λ s. SoFar l.edition l.pieces s (g.R.Read.remaining l.from) (g.W.Write.contents l.initial.to) (g.W.Write.contents l.to) l.turn l.out)

abbrev pub decreases-loop-turn : goal.decreases-loop-turn
decreases-loop-turn g l = 999999 - l.turn.listed + min l.turn.wanted 1
