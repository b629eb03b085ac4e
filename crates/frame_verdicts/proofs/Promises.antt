-- The promises hold. Assumes nothing.
use mathlib.Core.Path.{◌≡◌}
use mathlib.Core.Logic.{◌≢◌}
use mathlib.Core.List.{List}
use Prim.Native.Nat.{ℕ, ◌≤◌}
use borrow.Author.Tests.{ne_eqb}
use Rattle.dsc.specs.Marks.{unmarked}
use Rattle.frame.specs.Read.{refusal_by, places_by, judge_by, judge_of}
use Rattle.frame.specs.declared.Edition.{Edition}
use Rattle.frame.proofs.Verdicts.{refusal-small, places-small}
use Rattle.frame_verdicts.specs.Promises.{EveryVerdict}
use Rattle.frame_verdicts.proofs.Refused.{refused-some}
use Rattle.frame_verdicts.proofs.Accepted.{accepted-some}

module _ (ed : Edition) (f : List ℕ) where
  number-most : (judge_of ed f).number ≤ 9
  unfolding judge_by
  number-most = refusal-small ed unmarked f

  places-most : (judge_of ed f).repaired ≤ 8
  unfolding judge_by
  places-most = places-small ed unmarked f

  refused_none : (judge_of ed f).number ≢ 0 → (judge_of ed f).repaired ≡ 0
  unfolding judge_by places_by
  refused_none n = rw (ne_eqb (refusal_by ed unmarked f) 0 n)

pub every-verdict : (ed : Edition) → EveryVerdict ed
every-verdict ed =
    record {
      refused-some = refused-some ed;
      accepted-some = λ k h. accepted-some k h ed;
      number-most = number-most ed;
      places-most = places-most ed;
      refused_none = refused_none ed;
    }
