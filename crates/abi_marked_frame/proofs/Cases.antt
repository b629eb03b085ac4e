-- The cases of judging, as the function comes to them. Assumes nothing.
use mathlib.Core.Path.{◌≡◌, sym, ap, ◌∙◌}
use mathlib.Core.List.{List}
use Prim.Native.Nat.{ℕ, ◌+◌, ◌*◌}
use Rattle.dsc.specs.Marks.{marked}
use Rattle.frame.specs.Read.{read_by}
use Rattle.frame.specs.declared.Edition.TheVariants.{First}
use Rattle.frame.specs.declared.Tuner.TheVariants.{None}
use Rattle.frame.specs.declared.Record.{Record}
use Rattle.frame.specs.declared.Reading.{Reading}
use Rattle.frame.specs.declared.Reading.TheVariants.{Accepted, Refused}
use Rattle.abi.specs.Status.{status_of}
use Rattle.abi_marked_frame.specs.Judged.{damage_status, judge_marked_status}

-- the status n of the reading a
module _ (f m : List ℕ) (a : Reading) (e : a ≡ read_by First (marked m) None f) {n : ℕ} where
  pub judged-accepted : (r : Record) (d : ℕ) → a ≡ Accepted r d → n ≡ status_of 0 r.origin.repaired + 65536 * d → n ≡ judge_marked_status f m
  unfolding judge_marked_status
  judged-accepted r d ea en = en ∙ sym (ap damage_status ea) ∙ ap damage_status e

  pub judged-refused : (k : ℕ) → a ≡ Refused k → n ≡ status_of k 0 + 65536 * 0 → n ≡ judge_marked_status f m
  unfolding judge_marked_status
  judged-refused k ea en = en ∙ sym (ap damage_status ea) ∙ ap damage_status e
