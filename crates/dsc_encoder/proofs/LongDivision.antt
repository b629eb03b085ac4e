-- The steps of the encoder's long division. Assumes nothing.
use mathlib.Core.Path.{◌≡◌, refl, sym, ap, ◌∙◌}
use mathlib.Core.Bool.{Bool, true, false, not, beq}
use mathlib.Core.List.{List, [], ◌∷◌, ◌++◌}
use Prim.Native.Nat.{ℕ, zero, suc, ◌+◌, ◌≤◌, ◌<◌}
use native.Mathlib.Numerals.{add-one}
use native.Mathlib.Omega.{arith}
use lib.ListN.{length, get_or, set, take, drop, length-append, length-drop}
use lib.Seq.{take_all, drop_at, length-take-le}
use Rattle.gf2.specs.Polynomial.{◌⊕◌, add, scale, remainder}
use Rattle.gf2.proofs.Sum.{xor_comm, length-add, add-zeros}
use Rattle.dsc_bits.proofs.Steps.{ne-xor, next}

-- ---- adding the first j coefficients of g, then the next

set_next : (g v : List Bool) (j : ℕ) → j < length g → length g ≤ length v
    → set (add (take j g) v) j (not (beq (get_or (add (take j g) v) j false) (get_or g j false))) ≡ add (take (suc j) g) v
unfolding add
set_next [] v j h l = absurd (omega arith)
set_next (a ∷ g) [] j h l = absurd (omega arith)
set_next (a ∷ g) (b ∷ v) zero h l = ap (◌∷ v) (ne-xor b a ∙ xor_comm b a)
set_next (a ∷ g) (b ∷ v) (suc j) h l = ap ((a ⊕ b) ∷◌) (set_next g v j (omega arith) (omega arith))

pub add-next : (g v u : List Bool) (j : ℕ) → j < length g → length g ≤ length v → u ≡ add (take j g) v
    → set u j (not (beq (get_or u j false) (get_or g j false))) ≡ add (take (j + 1) g) v
add-next g v u j h l e =
    ap (λ u. set u j (not (beq (get_or u j false) (get_or g j false)))) e ∙ set_next g v j h l ∙ ap (λ n. add (take n g) v) (sym (add-one j))

pub add_none : (g v : List Bool) → v ≡ add (take 0 g) v
unfolding add
add_none g v = refl

pub add-all : (g v u : List Bool) (j : ℕ) → length g ≤ j → u ≡ add (take j g) v → u ≡ add g v
add-all g v u j h e = e ∙ ap (λ s. add s v) (take_all j g h)

-- ---- a step of the division

module _ (g w : List Bool) (k m : ℕ) (total : List Bool) (h : k < length w) (inv : remainder g (suc m) (drop k w) ≡ total) where
  split : (b : Bool) → get_or w k false ≡ b → total ≡ remainder g m (add (scale b g) (drop (k + 1) w))
  unfolding remainder
  split b e = sym inv ∙ ap (remainder g (suc m)) (next w k false h ∙ ap (◌∷ drop (k + 1) w) e)

  -- the leading bit is 0: nothing is taken away
  pub step-over : get_or w k false ≡ false → remainder g m (drop (k + 1) w) ≡ total
  unfolding scale
  step-over e = sym (split false e ∙ ap (remainder g m) (add-zeros (length g) (drop (k + 1) w)))

  -- it is 1: g is
  pub step-add : get_or w k false ≡ true → (v : List Bool) → v ≡ take (k + 1) w ++ add g (drop (k + 1) w) → remainder g m (drop (k + 1) v) ≡ total
  unfolding scale
  step-add e v q =
      ap (λ x. remainder g m (drop (k + 1) x)) q
      ∙ ap (remainder g m) (drop_at (take (k + 1) w) (add g (drop (k + 1) w)) (k + 1) (length-take-le (k + 1) w (omega arith)))
      ∙ sym (split true e)

pub length-added : (g w v : List Bool) (a : ℕ) → a ≤ length w → v ≡ take a w ++ add g (drop a w) → length v ≡ length w
length-added g w v a h q =
    ap length q ∙ length-append (take a w) (add g (drop a w)) ∙ omega (arith, length-add g (drop a w), length-drop a w, length-take-le a w h)
