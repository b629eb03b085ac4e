-- `frame_kinds::flags_wrong` meets its contract. Assumes nothing.
use mathlib.Core.Path.{◌≡◌, refl, sym, ap, ◌∙◌}
use mathlib.Core.Bool.{Bool, true, false, not, ◌&&◌}
use Prim.Native.Nat.{ℕ}
use lib.Dec.{eqb}
use borrow.Author.Tests.{eq-eqb, ne_eqb}
use Rattle.frame.specs.Identification.{flags_wrong}
use Rattle.frame.specs.declared.Class.{Class}
use Rattle.frame.specs.declared.Class.TheVariants.{Silent}
use Rattle.frame_kinds.proofs.flags_wrong.Goals as goal

-- `frame_kinds::flags_wrong` meets its contract. Assumes nothing.
-- any update will do
free : (t : Bool) (u : ℕ) → not t ≡ not (t && eqb u u)
free true u = rw (eq-eqb u u refl)
free false u = refl

module _ {k : Class} (c : Class) (s u : ℕ) (e : c ≡ k) where
  -- 00 is asked, and any update will do
  own : (t : Bool) → flags_wrong k s u ≡ not (t && eqb u u) → not t ≡ flags_wrong c s u
  own t h = free t u ∙ sym h ∙ ap (λ (x : Class). flags_wrong x s u) (sym e)

module _ (c : Class) (s u : ℕ) where
  silent-wrong : c ≡ Silent → (s ≡ 3 → ⊥) → true ≡ flags_wrong c s u
  silent-wrong e h = rw (e, ne_eqb s 3 h)

  silent : c ≡ Silent → s ≡ 3 → not (eqb u 3) ≡ flags_wrong c s u
  silent e h = rw (e, eq-eqb s 3 h)

pub returns-then-start-ne3 : goal.returns-then-start-ne3
returns-then-start-ne3 c = let s = c.args in silent-wrong s.class s.start s.update c.in-Silent.is c.if-start-ne3.true

pub returns-in-Warning : goal.returns-in-Warning
returns-in-Warning c = let s = c.args in own s.class s.start s.update c.in-Warning.is (eqb s.start 0) refl

pub returns-in-SafetyInformation : goal.returns-in-SafetyInformation
returns-in-SafetyInformation c = let s = c.args in own s.class s.start s.update c.in-SafetyInformation.is (eqb s.start 0) refl

pub returns-else-start-ne3 : goal.returns-else-start-ne3
returns-else-start-ne3 c = let s = c.args in silent s.class s.start s.update c.in-Silent.is c.if-start-ne3.false

pub returns-in-Undefined : goal.returns-in-Undefined
returns-in-Undefined c = let s = c.args in own s.class s.start s.update c.in-Undefined.is (eqb s.start 0) refl
