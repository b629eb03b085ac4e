-- The frames of an input. Assumes nothing.
use mathlib.Core.Path.{◌≡◌, refl, ap, ap₂, ◌∙◌}
use mathlib.Core.List.{List, [], ◌∷◌, ◌++◌}
use Prim.Native.Nat.{ℕ, zero, suc, ◌+◌, ◌-◌, ◌*◌}
use native.Mathlib.Omega.{arith}
use lib.ListN.{length, take, drop, length-drop}
use lib.Seq.{take-append-le, drop-append-le}
use Rattle.frame.specs.declared.Edition.{Edition}
use Rattle.ledger_input.specs.Input.{frames_in}

module _ (ed : Edition) where
  pub frames-none : (s : List ℕ) → frames_in ed 0 s ≡ []
  unfolding frames_in
  frames-none s = refl

  pub frames-next : (k : ℕ) (s : List ℕ) → frames_in ed (suc k) s ≡ (ed, take 26 s) ∷ frames_in ed k (drop 26 s)
  unfolding frames_in
  frames-next k s = refl

  pub frames-length : (k : ℕ) (s : List ℕ) → length (frames_in ed k s) ≡ k
  unfolding frames_in
  frames-length zero s = refl
  frames-length (suc k) s = ap suc (frames-length k (drop 26 s))

  -- those of a row of whole frames, and then those of the rest
  pub frames-append : (k j : ℕ) (s t : List ℕ) → length s ≡ 26 * k → frames_in ed (k + j) (s ++ t) ≡ frames_in ed k s ++ frames_in ed j t
  unfolding frames_in
  frames-append zero j [] t h = let e : 0 + j ≡ j = omega arith in ap (λ (n : ℕ). frames_in ed n t) e
  frames-append zero j (b ∷ s) t h = absurd (omega arith)
  frames-append (suc k) j s t h =
      let e : suc k + j ≡ suc (k + j) = omega arith in
      ap (λ (n : ℕ). frames_in ed n (s ++ t)) e
      ∙ ap₂ (λ (f rest : List ℕ). (ed, f) ∷ frames_in ed (k + j) rest) (take-append-le 26 s t (omega arith)) (drop-append-le 26 s t (omega arith))
      ∙ ap ((ed, take 26 s) ∷◌) (frames-append k j (drop 26 s) t (length-drop 26 s ∙ omega arith))
