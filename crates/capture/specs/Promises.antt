-- What this crate promises, in the words of documents 01 and 02, a). The record has one value for every edition, proved in proofs/Promises.antt. Assumes
-- nothing.
use Rattle.std.specs.Prelude.{◌≡◌, ◌≢◌, List, [], ◌∷◌, ◌++◌, ℕ, ◌+◌, ◌*◌, ◌≤◌, ◌<◌, length}
use Rattle.dsc.specs.Repair.{repair_of}
use Rattle.frame.specs.Read.{identification_in, frame_refusal}
use Rattle.frame.specs.Promises.{NotSafety}
use Rattle.frame.specs.declared.Edition.{Edition}
use Rattle.capture.specs.Capture.{part_at, number_at, frame_at}

-- frames end to end
unfoldable pub end_to_end : List (List ℕ) → List ℕ
end_to_end [] = []
end_to_end (f ∷ fs) = f ++ end_to_end fs

-- every one of them has 26 bytes
unfoldable pub Whole : List (List ℕ) → Type 0
Whole [] = Unit {0}
Whole (f ∷ fs) = (length f ≡ 26) × Whole fs

pub record Tuners (ed : Edition) : Type 0 where
  -- frame n of a capture of whole frames end to end, with any tail after them, is the n-th of them
  pub nth : (fs : List (List ℕ)) (f : List ℕ) (gs : List (List ℕ)) (tail : List ℕ) → Whole fs → length f ≡ 26
      → part_at (end_to_end (fs ++ f ∷ gs) ++ tail) (length fs) ≡ f
  -- a frame whose 26 bytes lie in the capture has the frame's own number
  pub within : (c : List ℕ) (n : ℕ) → 26 * n + 26 ≤ length c → number_at ed c n ≡ frame_refusal ed (part_at c n)
  -- a frame number whose 26 bytes do not all lie in a capture, however large, is 1 there
  pub past : (c : List ℕ) (n : ℕ) → length c < 26 * n + 26 → number_at ed c n ≡ 1
  -- the main one if accepted there
  pub main-first : (main spare : List ℕ) (n : ℕ) → number_at ed main n ≡ 0 → frame_at ed main spare n ≡ part_at main n
  -- otherwise the spare one if accepted there
  pub spare-otherwise : (main spare : List ℕ) (n : ℕ) → number_at ed main n ≢ 0 → number_at ed spare n ≡ 0 → frame_at ed main spare n ≡ part_at spare n
  -- the part is empty exactly when both numbers are not 0
  pub empty : (main spare : List ℕ) (n : ℕ) → number_at ed main n ≢ 0 → number_at ed spare n ≢ 0 → frame_at ed main spare n ≡ []
  pub empty-only : (main spare : List ℕ) (n : ℕ) → frame_at ed main spare n ≡ [] → (number_at ed main n ≢ 0) × (number_at ed spare n ≢ 0)
  -- what is not empty is an accepted frame
  pub accepted : (main spare : List ℕ) (n : ℕ) → frame_at ed main spare n ≢ [] → (length (frame_at ed main spare n) ≡ 26) × (frame_refusal ed (frame_at ed main spare n) ≡ 0)
  -- which edition is named does not matter to a frame whose repaired identification is not 5 or 6
  pub alike : (other : Edition) (c : List ℕ) (n : ℕ) → NotSafety (identification_in (repair_of (part_at c n)).word) → number_at ed c n ≡ number_at other c n
  pub frame-alike : (other : Edition) (main spare : List ℕ) (n : ℕ) → NotSafety (identification_in (repair_of (part_at main n)).word)
      → NotSafety (identification_in (repair_of (part_at spare n)).word) → frame_at ed main spare n ≡ frame_at other main spare n
