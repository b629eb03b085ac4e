-- What a turn of each loop does to the register, and to the word that is decided. Assumes nothing.
use mathlib.Core.Path.{◌≡◌, refl, sym, ap, ap₂, ◌∙◌}
use mathlib.Core.Bool.{Bool, true, false, not, ◌&&◌, beq}
use mathlib.Core.Logic.{◌≢◌}
use mathlib.Core.List.{List, [], ◌∷◌, ◌++◌}
use Prim.Native.Nat.{ℕ, zero, suc, ◌+◌, ◌≤◌, ◌<◌}
use native.Mathlib.Numerals.{add-one}
use native.Mathlib.Omega.{arith}
use lib.Dec.{leb}
use lib.ListN.{length, set, drop, length-append, drop_of_length-le}
use lib.Seq.{get_or-set_other}
use Rattle.gf2.specs.Polynomial.{◌⊕◌, scale}
use Rattle.gf2.specs.Register.{step, feed}
use Rattle.gf2.proofs.Sum.{get_or-add}
use Rattle.dsc.specs.Code.{generator_low, all_zero}
use Rattle.dsc.specs.CheckTable.{failures}
use Rattle.dsc_bits.specs.Words.{at}
use Rattle.dsc_bits.proofs.Octets.{zeros-at}
use Rattle.dsc_bits.proofs.Steps.{next, ne-xor}
use Rattle.dsc_shift_register.specs.Register.{decided, decided_place}

-- ---- a shift, cell by cell

snoc-at : (t : List Bool) (k : ℕ) → at (t ++ (false ∷ [])) k ≡ at t k
snoc-at [] zero = refl
snoc-at [] (suc k) = refl
snoc-at (b ∷ t) zero = refl
snoc-at (b ∷ t) (suc k) = snoc-at t k

step-at : (g s : List Bool) (b : Bool) (k : ℕ) → k < length s → at (step g s b) k ≡ at (scale (at s 0 ⊕ b) g) k ⊕ at s (k + 1)
unfolding step
step-at g [] b k h = absurd (omega arith)
step-at g (x ∷ t) b k h =
    get_or-add (scale (x ⊕ b) g) (t ++ (false ∷ [])) k (omega (arith, length-append t (false ∷ [])))
    ∙ ap (at (scale (x ⊕ b) g) k ⊕◌) (snoc-at t k ∙ sym (ap (at (x ∷ t)) (add-one k)))

-- what cell k holds after it, by the bit that leaves at the top
module _ (g : List Bool) (k : ℕ) (leaves : Bool) {x y : Bool} where
  pub cell-added : leaves ≡ true → x ≡ y → at g k ⊕ x ≡ at (scale leaves g) k ⊕ y
  unfolding scale
  cell-added e q = rw (e, q)

  pub cell-moved : leaves ≡ false → x ≡ y → x ≡ at (scale leaves g) k ⊕ y
  unfolding scale
  cell-moved e q = rw (e, zeros-at, q)

-- from cell j on, s is as it was
abbrev pub Kept : List Bool → ℕ → List Bool → Type 0
Kept s₀ j s = (k : ℕ) → j ≤ k → at s k ≡ at s₀ k

module _ (s₀ s : List Bool) (j : ℕ) (kept : Kept s₀ j s) where
  pub kept_next : (v : Bool) → Kept s₀ (j + 1) (set s j v)
  kept_next v k h = let ne : k ≢ j = λ q. omega arith in get_or-set_other s j k v false ne ∙ kept k (omega arith)

  pub shifted_at : (g : List Bool) (b v : Bool) → j < length s₀ → v ≡ at (scale (not (beq (at s₀ 0) b)) g) j ⊕ at s (j + 1) → v ≡ at (step g s₀ b) j
  shifted_at g b v h e =
      e ∙ ap₂ (λ t x. at (scale t g) j ⊕ x) (ne-xor (at s₀ 0) b) (kept (j + 1) (omega arith)) ∙ sym (step-at g s₀ b j h)

-- ---- a bit goes in

pub feed-next : (g s s' w total : List Bool) (n : ℕ) → n < length w → s' ≡ step g s (at w n) → feed g s (drop n w) ≡ total → feed g s' (drop (n + 1) w) ≡ total
unfolding feed
feed-next g s s' w total n h e inv = ap (λ u. feed g u (drop (n + 1) w)) e ∙ sym (ap (feed g s) (next w n false h)) ∙ inv

pub feed-done : (g s w total : List Bool) (n : ℕ) → length w ≤ n → feed g s (drop n w) ≡ total → s ≡ total
unfolding feed
feed-done g s w total n h inv = sym (ap (feed g s) (drop_of_length-le w h)) ∙ inv

-- ---- a cell is seen

module _ (s : List Bool) (j : ℕ) (total : Bool) where
  seen : j < length s → all_zero (drop j s) ≡ not (at s j) && all_zero (drop (j + 1) s)
  unfolding all_zero
  seen h = ap all_zero (next s j false h)

  pub zero-next : j < length s → at s j ≡ false → all_zero (drop j s) ≡ total → all_zero (drop (j + 1) s) ≡ total
  zero-next h e inv = sym (seen h ∙ ap (λ b. not b && all_zero (drop (j + 1) s)) e) ∙ inv

  pub zero-not : j < length s → at s j ≡ true → all_zero (drop j s) ≡ total → false ≡ total
  zero-not h e inv = sym (seen h ∙ ap (λ b. not b && all_zero (drop (j + 1) s)) e) ∙ inv

  pub zero-done : length s ≤ j → all_zero (drop j s) ≡ total → true ≡ total
  unfolding all_zero
  zero-done h inv = sym (ap all_zero (drop_of_length-le s h)) ∙ inv

-- ---- a place is decided

pub length-decided : (s w : List Bool) → length (decided s w) ≡ length w
length-decided s [] = refl
length-decided s (b ∷ w) = ap suc (length-decided (step generator_low s false) w)

-- where n bits of r are decided, and the register's state is s
module _ (s₀ r s : List Bool) (n : ℕ) (h : n < length r) (inv : drop n (decided s₀ r) ≡ decided s (drop n r)) where
  parts : at (decided s₀ r) n ∷ drop (n + 1) (decided s₀ r) ≡ (at r n ⊕ leb 9 (failures s decided_place)) ∷ decided (step generator_low s false) (drop (n + 1) r)
  parts = sym (next (decided s₀ r) n false (omega (arith, length-decided s₀ r))) ∙ inv ∙ ap (decided s) (next r n false h)

  pub decided-at : at r n ⊕ leb 9 (failures s decided_place) ≡ at (decided s₀ r) n
  decided-at = cc parts

  pub decided-next : (s' : List Bool) → s' ≡ step generator_low s false → drop (n + 1) (decided s₀ r) ≡ decided s' (drop (n + 1) r)
  decided-next s' e = rw e (cc parts)
