-- Tenths of a degree with their flag: the one answer for a double. Assumes nothing.
use mathlib.Core.Path.{◌≡◌, refl}
use Prim.Native.Nat.{ℕ, zero, suc, ◌≤◌}
use native.Mathlib.Omega.{arith}
use lib.Dec.{T}
use lib.Ieee.{Float}
use Rattle.std.specs.Prelude.{Option, Some, None}
use Rattle.place.specs.Degrees.{tenths, degrees_of}
use Rattle.place.specs.Desk.{same_bits, either_sign, signed_of}
use Rattle.place.specs.declared.SignedTenths.{SignedTenths}
use Rattle.place.proofs.Equality.{same-both}
use Rattle.place.proofs.Inverse.{tenths-inverse, tenths-plus, plus-not-neg}
use Rattle.place.proofs.Search.{Sought, present, absent, sought, unique}

-- the tenths up to the limit, with their flag, whose image x is, or the proof that there are none
pub data Flagged (limit : ℕ) (x : Float) : Option SignedTenths → Type 0 where
  flagged : (flag n : ℕ) → flag ≤ 1 → n ≤ limit → T (same_bits x (degrees_of flag n)) → Flagged limit x (Some (record { flag = flag; tenths = n }))
  unflagged : ((flag n : ℕ) → flag ≤ 1 → n ≤ limit → T (same_bits x (degrees_of flag n)) → ⊥) → Flagged limit x None

module _ (limit : ℕ) (x : Float) where
  either-flag : (v w : Option ℕ) → Sought (degrees_of 0) (suc limit) x v → Sought (degrees_of 1) (suc limit) x w → Flagged limit x (either_sign v w)
  either-flag v w (present n h t) s = flagged 0 n (omega arith) (omega arith) t
  either-flag v w (absent none) (present n h t) = flagged 1 n (omega arith) (omega arith) t
  either-flag v w (absent without) (absent negated) = unflagged never
    where
      never : (flag n : ℕ) → flag ≤ 1 → n ≤ limit → T (same_bits x (degrees_of flag n)) → ⊥
      never zero n f h t = without n (omega arith) t
      never (suc zero) n f h t = negated n (omega arith) t
      never (suc (suc k)) n f h t = omega arith

  pub signed : Flagged limit x (signed_of limit x)
  unfolding signed_of
  signed = either-flag _ _ (sought (degrees_of 0) x (suc limit)) (sought (degrees_of 1) x (suc limit))

-- no double is an image with both flags: a southern 0 is not a northern one
module _ (x : Float) (n m : ℕ) (h : n ≤ 1800) (l : m ≤ 1800) where
  flags-apart : T (same_bits x (degrees_of 0 n)) → T (same_bits x (degrees_of 1 m)) → ⊥
  unfolding degrees_of
  flags-apart s t =
      plus-not-neg (tenths n) (tenths m) (tenths-plus n h) (tenths-plus m l)
      (same-both x (degrees_of 0 n) (degrees_of 1 m) ((tenths-inverse 1800 (omega arith) 0).fitting n h) ((tenths-inverse 1800 (omega arith) 1).fitting m l) s t)

pub one-flag : (x : Float) (a b n m : ℕ) → a ≤ 1 → b ≤ 1 → n ≤ 1800 → m ≤ 1800 → T (same_bits x (degrees_of a n)) → T (same_bits x (degrees_of b m)) → (a ≡ b) × (n ≡ m)
one-flag x zero zero n m f g h l s t = (refl, unique (tenths-inverse 1800 (omega arith) 0) x n m h l s t)
one-flag x (suc zero) (suc zero) n m f g h l s t = (refl, unique (tenths-inverse 1800 (omega arith) 1) x n m h l s t)
one-flag x zero (suc zero) n m f g h l s t = absurd (flags-apart x n m h l s t)
one-flag x (suc zero) zero n m f g h l s t = absurd (flags-apart x m n l h t s)
one-flag x (suc (suc k)) b n m f g h l s t = absurd (omega arith)
one-flag x zero (suc (suc k)) n m f g h l s t = absurd (omega arith)
one-flag x (suc zero) (suc (suc k)) n m f g h l s t = absurd (omega arith)
