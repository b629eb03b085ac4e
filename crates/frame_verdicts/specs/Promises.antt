-- What this crate promises: which verdicts there are on frames without marks (document 01, "When the box says no"; demand 3). The record has one value for
-- every edition, proved in proofs/Promises.antt. Assumes nothing.
use Rattle.std.specs.Prelude.{◌≡◌, ◌≢◌, List, ℕ, ◌≤◌, ◌<◌}
use Rattle.bits.specs.Bits.{Bytes}
use Rattle.frame.specs.Read.{judge_of}
use Rattle.frame.specs.declared.Edition.{Edition}
use Rattle.frame.specs.declared.Verdict.{Verdict}

-- a frame of bytes that is judged so
pub record JudgedAs (ed : Edition) (v : Verdict) : Type 0 where
  pub frame : List ℕ
  pub all-bytes : Bytes frame
  pub judged : judge_of ed frame ≡ v

abbrev pub verdict_refused : ℕ → Verdict
verdict_refused n = record { number = n; repaired = 0 }

abbrev pub verdict_accepted : ℕ → Verdict
verdict_accepted k = record { number = 0; repaired = k }

pub record EveryVerdict (ed : Edition) : Type 0 where
  -- each refusal, 1 to 9, is given to some frame
  pub refused-some : (n : ℕ) → 0 < n → n ≤ 9 → JudgedAs ed (verdict_refused n)
  -- each number of repaired places, 0 to 8, is that of some accepted frame
  pub accepted-some : (k : ℕ) → k ≤ 8 → JudgedAs ed (verdict_accepted k)
  -- and there is no other verdict: a number up to 9, at most eight places, and none of a refused frame
  pub number-most : (f : List ℕ) → (judge_of ed f).number ≤ 9
  pub places-most : (f : List ℕ) → (judge_of ed f).repaired ≤ 8
  pub refused_none : (f : List ℕ) → (judge_of ed f).number ≢ 0 → (judge_of ed f).repaired ≡ 0
