-- A tuner's number, and the tuner that a frame is taken from: what each says of the captures. Assumes nothing.
use mathlib.Core.Path.{◌≡◌, refl, sym, ap, ◌∙◌}
use mathlib.Core.Bool.{Bool, true, false, cond}
use mathlib.Core.Logic.{◌≢◌}
use mathlib.Core.List.{List, []}
use Prim.Native.Nat.{ℕ, ◌+◌, ◌*◌, ◌≤◌, ◌<◌}
use native.Mathlib.Nat.{zero-add}
use native.Mathlib.Omega.{arith}
use lib.Dec.{eqb, leb}
use lib.ListN.{length, length-take, length-drop}
use borrow.Author.Tests.{eq-eqb, ne_eqb, eqb-true, eqb-false, le-leb, lt-leb, leb-true}
use Rattle.frame.specs.Read.{frame_refusal}
use Rattle.capture.specs.Capture.{part_at, number_at, source_of, bytes_from, position_from}
use Rattle.frame.specs.declared.Edition.{Edition}
use Rattle.frame.specs.declared.Tuner.{Tuner}
use Rattle.frame.specs.declared.Tuner.TheVariants.{None, Main, Spare}

module _ (ed : Edition) where
  pub number-within : (c : List ℕ) (n : ℕ) → 26 * n + 26 ≤ length c → number_at ed c n ≡ frame_refusal ed (part_at c n)
  unfolding number_at
  number-within c n h = rw (le-leb (26 * n + 26) (length c) h)

  pub number_past : (c : List ℕ) (n : ℕ) → length c < 26 * n + 26 → number_at ed c n ≡ 1
  unfolding number_at
  number_past c n h = rw (lt-leb (26 * n + 26) (length c) h)

  -- an accepted frame lies in its capture
  pub accepted-within : (c : List ℕ) (n : ℕ) → number_at ed c n ≡ 0 → 26 * n + 26 ≤ length c
  unfolding number_at
  accepted-within c n e = leb-true (26 * n + 26) (length c) (go (leb (26 * n + 26) (length c)) (frame_refusal ed (part_at c n)) e)
    where
      go : (b : Bool) (m : ℕ) → cond b m 1 ≡ 0 → b ≡ true
      go true m e = refl
      go false m e = let z : ◌≡◌ {A = ℕ} 1 0 = e in absurd (omega arith)

  pub accepted-part : (c : List ℕ) (n : ℕ) → number_at ed c n ≡ 0 → (length (part_at c n) ≡ 26) × (frame_refusal ed (part_at c n) ≡ 0)
  accepted-part c n e =
      let h = accepted-within c n e in
      (simp (length-take, length-drop) (omega arith), sym (number-within c n h) ∙ e)

  -- ---- the tuner

  module _ (main spare : List ℕ) (n : ℕ) where
    pub source-main : number_at ed main n ≡ 0 → source_of ed main spare n ≡ Main
    unfolding source_of
    source-main e = rw (eq-eqb (number_at ed main n) 0 e)

    pub source-spare : number_at ed main n ≢ 0 → number_at ed spare n ≡ 0 → source_of ed main spare n ≡ Spare
    unfolding source_of
    source-spare m e = rw (ne_eqb (number_at ed main n) 0 m, eq-eqb (number_at ed spare n) 0 e)

    pub source-none : number_at ed main n ≢ 0 → number_at ed spare n ≢ 0 → source_of ed main spare n ≡ None
    unfolding source_of
    source-none m s = rw (ne_eqb (number_at ed main n) 0 m, ne_eqb (number_at ed spare n) 0 s)

  -- the cases of two captures
  pub data Choice (main spare : List ℕ) (n : ℕ) : Type 0 where
    by-main : number_at ed main n ≡ 0 → Choice main spare n
    by-spare : number_at ed main n ≢ 0 → number_at ed spare n ≡ 0 → Choice main spare n
    by-none : number_at ed main n ≢ 0 → number_at ed spare n ≢ 0 → Choice main spare n

  pub choice : (main spare : List ℕ) (n : ℕ) → Choice main spare n
  choice main spare n = go (eqb (number_at ed main n) 0) refl (eqb (number_at ed spare n) 0) refl
    where
      go : (a : Bool) → eqb (number_at ed main n) 0 ≡ a → (b : Bool) → eqb (number_at ed spare n) 0 ≡ b → Choice main spare n
      go true p b q = by-main (eqb-true (number_at ed main n) 0 p)
      go false p true q = by-spare (eqb-false (number_at ed main n) 0 p) (eqb-true (number_at ed spare n) 0 q)
      go false p false q = by-none (eqb-false (number_at ed main n) 0 p) (eqb-false (number_at ed spare n) 0 q)

  -- a frame lies in the capture that it is taken from
  pub main-within : (main spare : List ℕ) (n : ℕ) → source_of ed main spare n ≡ Main → 26 * n + 26 ≤ length main
  main-within main spare n e = go (choice main spare n)
    where
      go : Choice main spare n → 26 * n + 26 ≤ length main
      go (by-main m) = accepted-within main n m
      go (by-spare m s) = let q = source-spare main spare n m s in let z : ◌≡◌ {A = ℕ} 0 1 = cc in absurd (omega arith)
      go (by-none m s) = let q = source-none main spare n m s in let z : ◌≡◌ {A = ℕ} 0 1 = cc in absurd (omega arith)

  pub spare-within : (main spare : List ℕ) (n : ℕ) → source_of ed main spare n ≡ Spare → 26 * n + 26 ≤ length spare
  spare-within main spare n e = go (choice main spare n)
    where
      go : Choice main spare n → 26 * n + 26 ≤ length spare
      go (by-main m) = let q = source-main main spare n m in let z : ◌≡◌ {A = ℕ} 0 1 = cc in absurd (omega arith)
      go (by-spare m s) = accepted-within spare n s
      go (by-none m s) = let q = source-none main spare n m s in let z : ◌≡◌ {A = ℕ} 0 1 = cc in absurd (omega arith)

-- where neither has it: an empty part, cut from the main one's start
pub none-bytes : {t : Tuner} (main spare : List ℕ) (n : ℕ) → t ≡ None → [] ≡ bytes_from t main spare n
none-bytes main spare n e = ap (λ (u : Tuner). bytes_from u main spare n) (sym e)

pub none-position : {t : Tuner} (main spare : ℕ × ℕ) (n : ℕ) → t ≡ None → (main.0, 0 + main.1) ≡ position_from t main spare n
none-position main spare n e = ap (λ (k : ℕ). (main.0, k)) (zero-add main.1) ∙ ap (λ (u : Tuner). position_from u main spare n) (sym e)
