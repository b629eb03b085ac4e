-- Rows of stores, one after the other. Assumes nothing.
use mathlib.Core.Path.{◌≡◌, refl, ap, ◌∙◌}
use mathlib.Core.Bool.{cond}
use mathlib.Core.List.{List, [], ◌∷◌, ◌++◌}
use Prim.Native.Nat.{ℕ, suc, ◌+◌, ◌<◌, ◌≤◌}
use native.Mathlib.Omega.{arith}
use lib.Dec.{leb}
use lib.ListN.{length, set, drop, length-append}
use lib.Seq.{sets, set_comm, sets-eq}
use borrow.Author.Tests.{le-leb, lt-leb}
use Rattle.bits.proofs.Slices.{sets-append}
use Rattle.decimals.specs.Put.{Put}

-- a store in front of a text
pub sets-front : (l : List ℕ) (i j a : ℕ) (s : List ℕ) → j < i → set (sets l i s) j a ≡ sets (set l j a) i s
sets-front l i j a [] h = refl
sets-front l i j a (b ∷ s) h =
    sets-front (set l i b) (suc i) j a s (omega arith)
    ∙ ap (λ (m : List ℕ). sets m (suc i) s) (set_comm l i j b a (λ e. omega arith))

-- a text stored at the start
pub sets-start : (l s : List ℕ) → length s ≤ length l → sets l 0 s ≡ s ++ drop (length s) l
sets-start l s h = let e : 0 + length s ≡ length s = omega arith in sets-eq s l 0 (omega arith) ∙ rw e

-- one text and then another
pub put_then : (s t : List ℕ) {l m k : List ℕ} {at i j : ℕ} → Put l at s m i → Put m i t k j → Put l at (s ++ t) k j
put_then s t {l} {m} {k} {at} {i} {j} p q =
    record {
      place = omega (arith, p.place, q.place, length-append s t);
      text =
          q.text
          ∙ ap (λ (x : List ℕ). sets x i t) p.text
          ∙ ap (λ (x : ℕ). sets (sets l at s) x t) p.place
          ∙ sets-append l at s t;
    }

-- ---- a text at the start of a buffer that has room for r bytes; otherwise nothing, and the answer is 0

abbrev pub Answered : (r : ℕ) (s l m : List ℕ) (j : ℕ) → Type 0
Answered r s l m j = (j ≡ cond (leb r (length l)) (length s) 0) × (m ≡ cond (leb r (length l)) (s ++ drop (length s) l) l)

pub answered-none : (r : ℕ) (s l : List ℕ) → length l < r → Answered r s l l 0
answered-none r s l h = rw (lt-leb r (length l) h) (refl, refl)

pub answered-text : (r : ℕ) (s l m : List ℕ) (j : ℕ) → r ≤ length l → length s ≤ length l → Put l 0 s m j → Answered r s l m j
answered-text r s l m j h k p = rw (le-leb r (length l) h) (omega (arith, p.place), p.text ∙ sets-start l s k)
