-- The promises of the pattern test hold. Assumes nothing.
use mathlib.Core.Path.{◌≡◌, sym, ap, ◌∙◌}
use mathlib.Core.Bool.{Bool}
use mathlib.Core.List.{List}
use Prim.Native.Nat.{ℕ, zero, suc, ◌-◌, ◌≤◌, ◌<◌}
use native.Mathlib.Omega.{arith}
use lib.ListN.{length}
use Rattle.std.specs.Prelude.{Option, None}
use Rattle.gf2.specs.Polynomial.{add}
use Rattle.gf2.proofs.Sum.{length-add}
use Rattle.dsc.specs.Code.{weight}
use Rattle.sync_pattern.specs.Pattern.{pattern_bits, differing_from, fit_with, sync_of, sync_number, fitting_pattern, fitting_differing}
use Rattle.sync_pattern.specs.Promises.{FarFromBoth, Fitting, PatternTest}
use Rattle.sync_pattern.specs.declared.Fit.{Fit}
use Rattle.sync_pattern.proofs.Patterns.{length-pattern, complement, sixteen, differing-hit, fits-0, fits-1, fits-neither, Answered, is-0, is-1, is-neither, answered}

-- ---- by the pattern

two : (p : ℕ) (P : ℕ → Type 0) → p < 2 → P 0 → P 1 → P p
two zero P h a b = a
two (suc zero) P h a b = b
two (suc (suc p)) P h a b = absurd (omega arith)

fits-near : (s : List Bool) (p : ℕ) → length s ≡ 16 → p < 2 → differing_from p s ≤ 3 → sync_of s ≡ fit_with p (differing_from p s)
fits-near s p l h =
    two p (λ (q : ℕ). differing_from q s ≤ 3 → sync_of s ≡ fit_with q (differing_from q s)) h (λ k. sym (fits-0 s k))
    (λ k. sym (fits-1 s (omega (arith, sixteen s l)) k))

fits : (s : List Bool) (p d : ℕ) → length s ≡ 16 → Fitting s p d → sync_of s ≡ fit_with p d
fits s p d l f = fits-near s p l f.pattern (omega (arith, f.differing, f.few)) ∙ ap (fit_with p) (sym f.differing)

only_one : (s : List Bool) (p q d e : ℕ) → length s ≡ 16 → Fitting s p d → Fitting s q e → p ≡ q
only_one s p q d e l f g = ap fitting_pattern (sym (fits s p d l f) ∙ fits s q e l g)

-- ---- by the answer

fits-only : (s : List Bool) (p d : ℕ) → sync_of s ≡ fit_with p d → Fitting s p d
fits-only s p d e = go (sync_of s) (answered s) e
  where
    go : (a : Option Fit) → Answered s a → a ≡ fit_with p d → Fitting s p d
    go _ (is-0 h) q =
        let ep : 0 ≡ p = ap fitting_pattern q in
        let ed : differing_from 0 s ≡ d = ap fitting_differing q in
        record { pattern = omega arith; differing = sym ed ∙ ap (λ (k : ℕ). differing_from k s) ep; few = omega arith }
    go _ (is-1 h) q =
        let ep : 1 ≡ p = ap fitting_pattern q in
        let ed : differing_from 1 s ≡ d = ap fitting_differing q in
        record { pattern = omega arith; differing = sym ed ∙ ap (λ (k : ℕ). differing_from k s) ep; few = omega arith }
    go _ (is-neither g h) q = let z : ◌≡◌ {A = ℕ} 3 0 = ap sync_number q in absurd (omega arith)

neither : (s : List Bool) → FarFromBoth s → sync_of s ≡ None
neither s f = sym (fits-neither s f.from-0 f.from-1)

neither-only : (s : List Bool) → sync_of s ≡ None → FarFromBoth s
neither-only s e = go (sync_of s) (answered s) e
  where
    go : (a : Option Fit) → Answered s a → a ≡ None → FarFromBoth s
    go _ (is-0 h) q = let z : ◌≡◌ {A = ℕ} 0 3 = ap sync_number q in absurd (omega arith)
    go _ (is-1 h) q = let z : ◌≡◌ {A = ℕ} 0 3 = ap sync_number q in absurd (omega arith)
    go _ (is-neither g h) q = record { from-0 = g; from-1 = h }

-- ---- a pattern that was hit

module _ (p : ℕ) (e : List Bool) (h : p < 2) (l : length e ≡ 16) where
  hit : List Bool
  hit = add e (pattern_bits p)

  length-hit : length hit ≡ 16
  unfolding hit
  length-hit = length-add e (pattern_bits p) ∙ length-pattern p

  sent : weight e ≤ 3 → sync_of (add e (pattern_bits p)) ≡ fit_with p (weight e)
  unfolding hit
  sent k = fits hit p (weight e) length-hit (record { pattern = h; differing = sym (differing-hit p e l); few = k })

  lost : 4 ≤ weight e → weight e ≤ 12 → sync_of (add e (pattern_bits p)) ≡ None
  unfolding hit
  lost a b =
      neither hit
      (two p (λ (q : ℕ). differing_from q hit ≡ weight e → FarFromBoth hit) h
      (λ d. record { from-0 = omega arith; from-1 = omega (arith, sixteen hit length-hit) })
      (λ d. record { from-0 = omega (arith, sixteen hit length-hit); from-1 = omega arith })
      (differing-hit p e l))

  mistaken : 13 ≤ weight e → sync_of (add e (pattern_bits p)) ≡ fit_with (1 - p) (16 - weight e)
  unfolding hit
  mistaken k =
      let sum = sixteen hit length-hit in
      two p (λ (q : ℕ). differing_from q hit ≡ weight e → sync_of hit ≡ fit_with (1 - q) (16 - weight e)) h
      (λ d. fits hit 1 (16 - weight e) length-hit (record { pattern = omega arith; differing = omega arith; few = omega arith }))
      (λ d. fits hit 0 (16 - weight e) length-hit (record { pattern = omega arith; differing = omega arith; few = omega arith }))
      (differing-hit p e l)

pub pattern-test : PatternTest
pattern-test =
    record {
      complement = complement;
      sixteen = sixteen;
      only_one = only_one;
      fits = fits;
      fits-only = fits-only;
      neither = neither;
      neither-only = neither-only;
      sent = sent;
      lost = lost;
      mistaken = mistaken;
    }
