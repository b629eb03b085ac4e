-- An accepted frame for each number of repaired places. Assumes nothing.
use mathlib.Core.Path.{◌≡◌, refl, ap, ◌∙◌}
use mathlib.Core.Bool.{Bool, true, false}
use mathlib.Core.List.{List, ◌++◌}
use Prim.Native.Nat.{ℕ, zero, suc, ◌+◌, ◌-◌, ◌≤◌}
use native.Mathlib.Omega.{arith}
use lib.ListN.{length, replicate, length-append, length-replicate}
use Rattle.bits.specs.Bits.{digit}
use Rattle.bits.specs.Refusal.{first_refusal}
use Rattle.bits.specs.Segment.{free_widths}
use Rattle.bits.proofs.Bits.{bytes-Bytes}
use Rattle.gf2.specs.Polynomial.{zeros}
use Rattle.dsc.specs.Code.{weight}
use Rattle.dsc.specs.Marks.{unmarked}
use Rattle.dsc.proofs.Weight.{weight-zeros, weight-append}
use Rattle.frame.specs.Identification.{class_of}
use Rattle.frame.specs.Body.{row, layout}
use Rattle.frame.specs.Fields.{field_widths, scatter}
use Rattle.frame.specs.Write.{Legal, record_refusal}
use Rattle.frame.specs.Worked.{area_record}
use Rattle.frame.specs.Promises.{hit_frame}
use Rattle.frame.specs.declared.Edition.{Edition}
use Rattle.frame.specs.declared.Edition.TheVariants.{First, AreaSafety}
use Rattle.frame.specs.declared.Tuner.TheVariants.{None}
use Rattle.frame.proofs.Promises.{demand2}
use Rattle.frame_verdicts.specs.Promises.{JudgedAs, verdict_accepted}

-- a warning for all areas is legal in every edition
all-areas : (ed : Edition) → Legal ed (area_record 0)
unfolding record_refusal first_refusal area_record class_of row layout field_widths scatter free_widths
all-areas First = refl
all-areas AreaSafety = refl

weight-ones : (k : ℕ) → weight (replicate k true) ≡ k
unfolding digit
weight-ones zero = refl
weight-ones (suc k) = omega (arith, weight-ones k)

-- the first k places are hit
hits : ℕ → List Bool
hits k = replicate k true ++ zeros (187 - k)

module _ (k : ℕ) (few : k ≤ 8) where
  hits-length : length (hits k) ≡ 187
  unfolding hits
  hits-length = simp (length-append, length-replicate) (omega arith)

  hits-weight : weight (hits k) ≡ k
  unfolding hits
  hits-weight = weight-append (replicate k true) (zeros (187 - k)) ∙ omega (arith, weight-ones k, weight-zeros (187 - k))

  pub accepted-some : (ed : Edition) → JudgedAs ed (verdict_accepted k)
  unfolding hit_frame
  accepted-some ed =
      let r = area_record 0 in
      let f = hit_frame ed r (zeros 16) (hits k) in
      let hit = (demand2 ed).hit-some unmarked r (zeros 16) (hits k) tt (length-replicate 16 false) (omega (arith, weight-zeros 16)) hits-length (omega (arith, hits-weight)) in
      let back = (demand2 ed).hit-comes-back unmarked None r (zeros 16) (hits k) f (all-areas ed) hit in
      record {
        frame = f;
        all-bytes = bytes-Bytes 26 _;
        judged =
            (demand2 ed).judged-accepted unmarked None f back.back _ back.accepted
            ∙ ap verdict_accepted (back.repaired ∙ hits-weight);
      }
