-- Laws of the table of identifications: what the editions share, and what they do not. No other law looks at them one by one. Assumes nothing.
use mathlib.Core.Path.{◌≡◌, refl, sym, ap, ◌∙◌}
use mathlib.Core.Bool.{Bool, true, false, cond, ◌||◌}
use mathlib.Core.Logic.{◌⊎◌, inl, inr}
use Prim.Native.Nat.{ℕ, ◌≤◌, ◌<◌}
use native.Mathlib.Omega.{arith}
use lib.Dec.{eqb, leb}
use borrow.Author.Tests.{eqb-true, ne_eqb, le-leb, lt-leb, leb-true}
use Rattle.frame.specs.Identification.{schedule1, class_of, start_end_of, update_of}
use Rattle.frame.specs.Promises.{NotSafety}
use Rattle.frame.specs.declared.Edition.{Edition}
use Rattle.frame.specs.declared.Edition.TheVariants.{First, AreaSafety}
use Rattle.frame.specs.declared.Class.TheVariants.{Warning, SafetyInformation, Silent, Undefined}

neither : (i : ℕ) → NotSafety i → (eqb i 5 || eqb i 6) ≡ false
neither i n = rw (ne_eqb i 5 n.0, ne_eqb i 6 n.1)

-- every edition has schedule 1 where an identification is not 5 or 6
in-schedule1 : (ed : Edition) (i : ℕ) → NotSafety i → class_of ed i ≡ schedule1 i
unfolding class_of
in-schedule1 First i n = refl
in-schedule1 AreaSafety i n = ap (λ (t : Bool). cond t SafetyInformation (schedule1 i)) (neither i n)

pub class-alike : (ed other : Edition) (i : ℕ) → NotSafety i → class_of ed i ≡ class_of other i
class-alike ed other i n = in-schedule1 ed i n ∙ sym (in-schedule1 other i n)

pub warning-class : (ed : Edition) (i : ℕ) → i ≤ 3 → class_of ed i ≡ Warning
warning-class ed i h = in-schedule1 ed i ((λ e. omega arith), (λ e. omega arith)) ∙ rw (le-leb i 3 h)

-- and only those
schedule1-warning : (i : ℕ) → schedule1 i ≡ Warning → i ≤ 3
schedule1-warning i = go (leb i 3) (eqb i 7) refl
  where
    go : (s t : Bool) → leb i 3 ≡ s → cond s Warning (cond t Silent Undefined) ≡ Warning → i ≤ 3
    go true t q e = leb-true i 3 q
    go false true q e = let z : ◌≡◌ {A = ℕ} 0 1 = cc in absurd (omega arith)
    go false false q e = let z : ◌≡◌ {A = ℕ} 0 1 = cc in absurd (omega arith)

pub warning-only : (ed : Edition) (i : ℕ) → class_of ed i ≡ Warning → i ≤ 3
unfolding class_of
warning-only First i e = schedule1-warning i e
warning-only AreaSafety i e = go (eqb i 5 || eqb i 6) e
  where
    go : (s : Bool) → cond s SafetyInformation (schedule1 i) ≡ Warning → i ≤ 3
    go true q = let z : ◌≡◌ {A = ℕ} 0 1 = cc in absurd (omega arith)
    go false q = schedule1-warning i q

pub beyond : (ed : Edition) (i : ℕ) → 7 < i → class_of ed i ≡ Undefined
beyond ed i h = in-schedule1 ed i ((λ e. omega arith), (λ e. omega arith)) ∙ rw (lt-leb i 3 (omega arith), ne_eqb i 7 (λ e. omega arith))

pub silent-class : (ed : Edition) → class_of ed 7 ≡ Silent
silent-class ed = in-schedule1 ed 7 ((λ e. omega arith), (λ e. omega arith))

-- 5 and 6
pub safety-class : (i : ℕ) → (i ≡ 5) ⊎ (i ≡ 6) → (class_of First i ≡ Undefined) × (class_of AreaSafety i ≡ SafetyInformation)
unfolding class_of
safety-class i (inl e) = rw e (refl, refl)
safety-class i (inr e) = rw e (refl, refl)

schedule1-start : (i : ℕ) → start_end_of (schedule1 i) ≡ cond (eqb i 7) 3 0
schedule1-start i = go (leb i 3) (eqb i 7) refl refl
  where
    go : (s t : Bool) → leb i 3 ≡ s → eqb i 7 ≡ t → start_end_of (cond s Warning (cond t Silent Undefined)) ≡ cond t 3 0
    go true true e f = let h = leb-true i 3 e in let k = eqb-true i 7 f in absurd (omega arith)
    go true false e f = refl
    go false true e f = refl
    go false false e f = refl

-- start/end, by the identification: 11 for 7, else 00
pub table-start-end : (ed : Edition) (i : ℕ) → start_end_of (class_of ed i) ≡ cond (eqb i 7) 3 0
unfolding class_of
table-start-end First i = schedule1-start i
table-start-end AreaSafety i = go (eqb i 5) (eqb i 6) refl refl
  where
    go : (s t : Bool) → eqb i 5 ≡ s → eqb i 6 ≡ t → start_end_of (cond (s || t) SafetyInformation (schedule1 i)) ≡ cond (eqb i 7) 3 0
    go true t e f = ap (λ (n : ℕ). cond (eqb n 7) 3 0) (sym (eqb-true i 5 e))
    go false true e f = ap (λ (n : ℕ). cond (eqb n 7) 3 0) (sym (eqb-true i 6 f))
    go false false e f = schedule1-start i

-- update: 11 for 7, else the frame's own
schedule1-update : (i u : ℕ) → update_of (schedule1 i) u ≡ cond (eqb i 7) 3 u
schedule1-update i u = go (leb i 3) (eqb i 7) refl refl
  where
    go : (s t : Bool) → leb i 3 ≡ s → eqb i 7 ≡ t → update_of (cond s Warning (cond t Silent Undefined)) u ≡ cond t 3 u
    go true true e f = let h = leb-true i 3 e in let k = eqb-true i 7 f in absurd (omega arith)
    go true false e f = refl
    go false true e f = refl
    go false false e f = refl

pub table-update : (ed : Edition) (i u : ℕ) → update_of (class_of ed i) u ≡ cond (eqb i 7) 3 u
unfolding class_of
table-update First i u = schedule1-update i u
table-update AreaSafety i u = go (eqb i 5) (eqb i 6) refl refl
  where
    go : (s t : Bool) → eqb i 5 ≡ s → eqb i 6 ≡ t → update_of (cond (s || t) SafetyInformation (schedule1 i)) u ≡ cond (eqb i 7) 3 u
    go true t e f = ap (λ (n : ℕ). cond (eqb n 7) 3 u) (sym (eqb-true i 5 e))
    go false true e f = ap (λ (n : ℕ). cond (eqb n 7) 3 u) (sym (eqb-true i 6 f))
    go false false e f = schedule1-update i u
