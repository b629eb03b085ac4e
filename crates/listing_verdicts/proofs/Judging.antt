-- The ways to judge a piece. Assumes nothing.
use mathlib.Core.Path.{◌≡◌, ap₂, ◌∙◌}
use mathlib.Core.List.{List}
use Prim.Native.Nat.{ℕ, ◌-◌, min}
use lib.ListN.{length, take, drop}
use Rattle.dsc.specs.Marks.{marked}
use Rattle.frame.specs.Read.{judge_by, judge_of}
use Rattle.frame.specs.declared.Edition.{Edition}
use Rattle.frame.specs.declared.Verdict.{Verdict}
use Rattle.listing.specs.Lines.{verdict_of}
use Rattle.listing.specs.declared.Pieces.{Pieces}
use Rattle.listing.specs.declared.Pieces.TheVariants.{Frames, MarkedFrames}
use Rattle.listing.proofs.Cuts.{cut-take, cut-rest}

module _ (ed : Edition) (p : Pieces) (s : List ℕ) (v : Verdict) where
  pub frame-judged : p ≡ Frames → v ≡ judge_of ed s → v ≡ verdict_of ed p s
  unfolding verdict_of
  frame-judged e judged = rw e judged

  -- a marked frame, cut behind its 26 bytes
  pub marked-judged : (cut : ℕ) → p ≡ MarkedFrames → cut ≡ min 26 (length s)
      → v ≡ judge_by ed (marked (take (length s - cut) (drop cut s))) (take cut s) → v ≡ verdict_of ed p s
  unfolding verdict_of
  marked-judged cut e c judged =
      rw e (judged ∙ ap₂ (λ (m f : List ℕ). judge_by ed (marked m) f) (cut-rest 26 s cut c) (cut-take 26 s cut c))
