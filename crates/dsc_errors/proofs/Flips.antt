-- How many places the majority flips, counted 64 at a time. Assumes nothing.
use mathlib.Core.Path.{◌≡◌, refl, sym, ap, ap₂, ◌∙◌}
use mathlib.Core.Bool.{Bool}
use mathlib.Core.List.{List, [], ◌∷◌}
use Prim.Native.Nat.{ℕ, zero, suc, ◌+◌, ◌^◌, ◌≤◌, ◌<◌}
use native.Mathlib.Omega.{arith}
use lib.Count.{ones}
use lib.Dec.{leb}
use lib.ListN.{length}
use Rattle.gf2.specs.Polynomial.{add}
use Rattle.gf2.proofs.Sum.{xor_self}
use Rattle.lanes.specs.Lane.{lane}
use Rattle.bits.specs.Bits.{digit}
use Rattle.dsc.specs.Code.{count, dist}
use Rattle.dsc.specs.CheckTable.{failures, upto}
use Rattle.dsc.specs.Majority.{flipped}
use Rattle.dsc.proofs.Incidence.{count-upto}
use Rattle.dsc_words.proofs.Words.{count-lanes}

-- the first m lanes of x are the majorities of the places of w from n on
pub record Majorities (w : List Bool) (n m x : ℕ) : Type 0 where
  pub each : (i : ℕ) → i < m → lane x i ≡ leb 9 (failures w (n + i))

-- how many of the first n places are flipped
unfoldable pub flips : List Bool → ℕ → ℕ
flips w n = count (λ p. leb 9 (failures w p)) (upto n)

count-parts : (f : ℕ → Bool) (n m : ℕ) → count f (upto (n + m)) ≡ count f (upto n) + count (λ i. f (n + i)) (upto m)
count-parts f n zero = ap (λ k. count f (upto k)) (let e : n + 0 ≡ n = omega arith in e) ∙ omega arith
count-parts f n (suc m) = ap (λ k. count f (upto k)) (let e : n + suc m ≡ suc (n + m) = omega arith in e) ∙ omega (arith, count-parts f n m)

module _ (w : List Bool) where
  pub flips-none : flips w 0 ≡ 0
  unfolding flips
  flips-none = refl

  pub flips-more : (n m : ℕ) → flips w n ≤ flips w (n + m)
  unfolding flips
  flips-more n m = omega (arith, count-parts (λ p. leb 9 (failures w p)) n m)

  pub flips-next : {n m x : ℕ} → Majorities w n m x → x < 2 ^ m → flips w (n + m) ≡ flips w n + ones x
  unfolding flips
  flips-next {n} {m} {x} e h =
      let f : ℕ → Bool = λ p. leb 9 (failures w p) in
      count-parts f n m ∙ ap (count f (upto n) +◌) (sym (count-upto m (lane x) (λ i. f (n + i)) e.each) ∙ count-lanes m x h)

  -- the last bits u, flipped by the majority in w
  pub flips-last : (u : List Bool) → dist u (flipped w u) ≡ flips w (length u)
  unfolding flips add
  flips-last [] = refl
  flips-last (b ∷ u) = ap₂ (λ t k. digit t + k) (xor_self b (leb 9 (failures w (length u)))) (flips-last u)
