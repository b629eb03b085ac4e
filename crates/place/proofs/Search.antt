-- The search for the field value, and what finds it without a search. Assumes nothing.
use mathlib.Core.Path.{◌≡◌, ◌∙◌, refl, sym, ap, subst}
use mathlib.Core.Bool.{Bool, true, false, cond}
use Prim.Native.Nat.{ℕ, zero, suc, ◌≤◌, ◌<◌}
use native.Mathlib.Omega.{arith}
use lib.Dec.{T, eqb}
use lib.Ieee.{Float, binary64, fits}
use borrow.Author.Tests.{eqb-true, eqb-false}
use Rattle.std.specs.Prelude.{Option, Some, None}
use Rattle.std.specs.Bool.{then_some}
use Rattle.place.specs.Desk.{same_bits, seek, value_of}
use Rattle.place.proofs.Equality.{passes, fails, same-equal, same-both}
use Rattle.place.proofs.Inverse.{Inverse}

-- the number below k whose image x is, or the proof that there is none
pub data Sought (image : ℕ → Float) (k : ℕ) (x : Float) : Option ℕ → Type 0 where
  present : (n : ℕ) → n < k → T (same_bits x (image n)) → Sought image k x (Some n)
  absent : ((n : ℕ) → n < k → T (same_bits x (image n)) → ⊥) → Sought image k x None

module _ (image : ℕ → Float) (x : Float) where
  no_more : (k : ℕ) → (T (same_bits x (image k)) → ⊥) → ((n : ℕ) → n < k → T (same_bits x (image n)) → ⊥) → (n : ℕ) → n < suc k → T (same_bits x (image n)) → ⊥
  no_more k last rest n h t = go (eqb n k) refl
    where
      go : (b : Bool) → eqb n k ≡ b → ⊥
      go true e = last (subst (λ (m : ℕ). T (same_bits x (image m))) (eqb-true n k e) t)
      go false e = let ne = eqb-false n k e in rest n (omega arith) t

  one_more : (k : ℕ) (v : Option ℕ) → Sought image k x v → (b : Bool) → same_bits x (image k) ≡ b → Sought image (suc k) x (cond b (Some k) v)
  one_more k v s true e = present k (omega arith) (passes e)
  one_more k v (present n h t) false e = present n (omega arith) t
  one_more k v (absent none) false e = absent (no_more k (fails e) none)

  pub sought : (k : ℕ) → Sought image k x (seek image k x)
  unfolding seek
  sought zero = absent (λ n h t. omega arith)
  sought (suc k) = one_more k (seek image k x) (sought k) _ refl

-- there is one answer only
module _ {image : ℕ → Float} {near : Float → ℕ} {limit : ℕ} (inverse : Inverse image near limit) (x : Float) where
  pub unique : (n m : ℕ) → n ≤ limit → m ≤ limit → T (same_bits x (image n)) → T (same_bits x (image m)) → n ≡ m
  unique n m h l s t =
      sym (inverse.back n h) ∙ ap near (same-both x (image n) (image m) (inverse.fitting n h) (inverse.fitting m l) s t) ∙ inverse.back m l

  pub one_answer : {v w : Option ℕ} → Sought image (suc limit) x v → Sought image (suc limit) x w → v ≡ w
  one_answer (present n h s) (present m l t) = ap Some (unique n m (omega arith) (omega arith) s t)
  one_answer (present n h s) (absent none) = absurd (none n h s)
  one_answer (absent none) (present n h s) = absurd (none n h s)
  one_answer (absent none) (absent missing) = refl

  pub value : {v : Option ℕ} → Sought image (suc limit) x v → v ≡ value_of image limit x
  value s = one_answer s (sought image x (suc limit))

-- ---- the number near x is the only one to be compared
module _ {image : ℕ → Float} {near : Float → ℕ} {limit : ℕ} (inverse : Inverse image near limit) (x : Float) (f : T (fits binary64 x)) (k : ℕ) (e : k ≡ near x) where
  nearest : (n : ℕ) → n ≤ limit → T (same_bits x (image n)) → n ≡ k
  nearest n h t = sym (inverse.back n h) ∙ sym (ap near (same-equal x (image n) f (inverse.fitting n h) t)) ∙ sym e

  pub beyond : limit < k → None ≡ value_of image limit x
  beyond l = value inverse x (absent (λ n h t. omega (arith, nearest n (omega arith) t)))

  pub compared : {y : Float} {b : Bool} → y ≡ image k → b ≡ same_bits x y → k ≤ limit → then_some b k ≡ value_of image limit x
  compared {y} {b} p q h = go b (sym (q ∙ ap (same_bits x) p))
    where
      go : (b : Bool) → same_bits x (image k) ≡ b → then_some b k ≡ value_of image limit x
      go true alike = value inverse x (present k (omega arith) (passes alike))
      go false unlike =
          value inverse x (absent (λ n h t. fails unlike (subst (λ (m : ℕ). T (same_bits x (image m))) (nearest n (omega arith) t) t)))
