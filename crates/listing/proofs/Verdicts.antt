-- A verdict's numbers fit a byte. Assumes nothing.
use mathlib.Core.List.{List}
use Prim.Native.Nat.{ℕ, ◌<◌}
use native.Mathlib.Omega.{arith}
use Rattle.frame.specs.Read.{judge_by}
use Rattle.frame.specs.declared.Edition.{Edition}
use Rattle.frame.specs.declared.Verdict.{Verdict}
use Rattle.frame.proofs.Verdicts.{refusal-small, places-small}
use Rattle.listing.specs.Lines.{frame_in, marking_in, verdict_of}
use Rattle.listing.specs.declared.Pieces.{Pieces}

abbrev pub Small : Verdict → Type 0
Small v = (v.number < 256) × (v.repaired < 256)

pub verdict-small : (ed : Edition) (p : Pieces) (s : List ℕ) → Small (verdict_of ed p s)
unfolding verdict_of judge_by
verdict-small ed p s =
    let q = marking_in p s in
    let f = frame_in p s in
    (omega (arith, refusal-small ed q f), omega (arith, places-small ed q f))
