-- How large the numbers of a verdict are. Assumes nothing.
use mathlib.Core.Path.{◌≡◌, refl}
use mathlib.Core.Bool.{Bool, true, false}
use mathlib.Core.List.{List}
use Prim.Native.Nat.{ℕ, ◌≤◌}
use native.Mathlib.Omega.{arith}
use lib.Dec.{eqb}
use borrow.Author.Tests.{eqb-true}
use Rattle.bits.proofs.Refusal.{refusal-most}
use Rattle.dsc.specs.Marks.{Marking}
use Rattle.frame.specs.Read.{frame_tests, refusal_by, places_by}
use Rattle.frame.specs.declared.Edition.{Edition}
use Rattle.frame.proofs.Readings.{few-eight, accepted-judged, judged-places}

module _ (ed : Edition) (q : Marking) (f : List ℕ) where
  pub refusal-small : refusal_by ed q f ≤ 9
  unfolding refusal_by
  refusal-small = refusal-most 9 (frame_tests ed q f) refl

  pub places-small : places_by ed q f ≤ 8
  unfolding places_by
  places-small = go (eqb (refusal_by ed q f) 0) refl
    where
      go : (t : Bool) → eqb (refusal_by ed q f) 0 ≡ t → places_by ed q f ≤ 8
      go true e =
          let j = accepted-judged ed q f (eqb-true (refusal_by ed q f) 0 e) in
          omega (arith, judged-places ed q f j, few-eight q j.places j.few)
      go false e = rw e (omega arith)
