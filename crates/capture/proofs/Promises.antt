-- The promises hold. Assumes nothing.
use mathlib.Core.Path.{◌≡◌, refl, sym, ap, ◌∙◌}
use mathlib.Core.Logic.{◌≢◌}
use mathlib.Core.List.{List, [], ◌∷◌, ◌++◌, append_assoc}
use Prim.Native.Nat.{ℕ, ◌+◌, ◌*◌}
use native.Mathlib.Omega.{arith}
use lib.ListN.{length, take, drop}
use lib.Seq.{take_at, drop-append-add}
use Rattle.dsc.specs.Repair.{repair_of}
use Rattle.dsc.specs.Marks.{unmarked}
use Rattle.frame.specs.Read.{identification_in, frame_refusal, judge_by}
use Rattle.frame.specs.Promises.{NotSafety}
use Rattle.frame.specs.declared.Edition.{Edition}
use Rattle.frame.specs.declared.Verdict.{Verdict}
use Rattle.frame.proofs.Editions.{editions}
use Rattle.capture.specs.Capture.{part_at, number_at, source_of, bytes_from, frame_at}
use Rattle.capture.specs.Promises.{end_to_end, Whole, Tuners}
use Rattle.frame.specs.declared.Tuner.{Tuner}
use Rattle.capture.proofs.Choice.{number-within, number_past, accepted-part, source-main, source-spare, source-none, Choice, by-main, by-spare, by-none, choice}

-- ---- frame n

-- behind whole frames stands what follows them
behind : (fs gs : List (List ℕ)) (tail : List ℕ) → Whole fs → drop (26 * length fs) (end_to_end (fs ++ gs) ++ tail) ≡ end_to_end gs ++ tail
unfolding end_to_end Whole
behind [] gs tail w = refl
behind (f ∷ fs) gs tail w =
    let rest = end_to_end (fs ++ gs) in
    let n : 26 * length (f ∷ fs) ≡ length f + 26 * length fs = omega (arith, w.0) in
    ap (λ (k : ℕ). drop k ((f ++ rest) ++ tail)) n
    ∙ ap (drop (length f + 26 * length fs)) (append_assoc f rest tail)
    ∙ drop-append-add f (rest ++ tail) (26 * length fs)
    ∙ behind fs gs tail w.1

nth : (fs : List (List ℕ)) (f : List ℕ) (gs : List (List ℕ)) (tail : List ℕ) → Whole fs → length f ≡ 26
    → part_at (end_to_end (fs ++ f ∷ gs) ++ tail) (length fs) ≡ f
unfolding end_to_end
nth fs f gs tail w h = ap (take 26) (behind fs (f ∷ gs) tail w ∙ append_assoc f (end_to_end gs) tail) ∙ take_at f (end_to_end gs ++ tail) 26 h

module _ (ed : Edition) where
  -- ---- the part

  module _ (main spare : List ℕ) (n : ℕ) where
    main-first : number_at ed main n ≡ 0 → frame_at ed main spare n ≡ part_at main n
    main-first e = ap (λ (t : Tuner). bytes_from t main spare n) (source-main ed main spare n e)

    spare-otherwise : number_at ed main n ≢ 0 → number_at ed spare n ≡ 0 → frame_at ed main spare n ≡ part_at spare n
    spare-otherwise m e = ap (λ (t : Tuner). bytes_from t main spare n) (source-spare ed main spare n m e)

    empty : number_at ed main n ≢ 0 → number_at ed spare n ≢ 0 → frame_at ed main spare n ≡ []
    empty m s = ap (λ (t : Tuner). bytes_from t main spare n) (source-none ed main spare n m s)

  -- an accepted frame is not empty
  not-empty : (c f : List ℕ) (n : ℕ) → number_at ed c n ≡ 0 → f ≡ part_at c n → f ≢ []
  not-empty c f n e p q = omega (arith, (accepted-part ed c n e).0, ap length (sym p ∙ q))

  empty-only : (main spare : List ℕ) (n : ℕ) → frame_at ed main spare n ≡ [] → (number_at ed main n ≢ 0) × (number_at ed spare n ≢ 0)
  empty-only main spare n e = go (choice ed main spare n)
    where
      go : Choice ed main spare n → (number_at ed main n ≢ 0) × (number_at ed spare n ≢ 0)
      go (by-main m) = absurd (not-empty main (frame_at ed main spare n) n m (main-first main spare n m) e)
      go (by-spare m s) = absurd (not-empty spare (frame_at ed main spare n) n s (spare-otherwise main spare n m s) e)
      go (by-none m s) = (m, s)

  accepted : (main spare : List ℕ) (n : ℕ) → frame_at ed main spare n ≢ [] → (length (frame_at ed main spare n) ≡ 26) × (frame_refusal ed (frame_at ed main spare n) ≡ 0)
  accepted main spare n ne = go (choice ed main spare n)
    where
      go : Choice ed main spare n → (length (frame_at ed main spare n) ≡ 26) × (frame_refusal ed (frame_at ed main spare n) ≡ 0)
      go (by-main m) = rw (main-first main spare n m) (accepted-part ed main n m)
      go (by-spare m s) = rw (spare-otherwise main spare n m s) (accepted-part ed spare n s)
      go (by-none m s) = absurd (ne (empty main spare n m s))

  alike : (other : Edition) (c : List ℕ) (n : ℕ) → NotSafety (identification_in (repair_of (part_at c n)).word) → number_at ed c n ≡ number_at other c n
  unfolding number_at judge_by
  alike other c n h =
      let same : frame_refusal ed (part_at c n) ≡ frame_refusal other (part_at c n) = ap (λ (v : Verdict). v.number) (editions.frame-alike ed other unmarked (part_at c n) h).judged in
      rw same

  frame-alike : (other : Edition) (main spare : List ℕ) (n : ℕ) → NotSafety (identification_in (repair_of (part_at main n)).word)
      → NotSafety (identification_in (repair_of (part_at spare n)).word) → frame_at ed main spare n ≡ frame_at other main spare n
  unfolding source_of
  frame-alike other main spare n m s = rw (alike other main n m, alike other spare n s)

  pub tuners : Tuners ed
  tuners =
      record {
        nth = nth;
        within = number-within ed;
        past = number_past ed;
        main-first = main-first;
        spare-otherwise = spare-otherwise;
        empty = empty;
        empty-only = empty-only;
        accepted = accepted;
        alike = alike;
        frame-alike = frame-alike;
      }
