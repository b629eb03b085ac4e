-- Division with remainder, multiples of the divisor, and check bits. Assumes nothing.
use mathlib.Core.Path.{◌≡◌, refl, sym, ap, ap₂, ◌∙◌}
use mathlib.Core.Bool.{Bool, true, false}
use mathlib.Core.List.{List, [], ◌∷◌, ◌++◌}
use Prim.Native.Nat.{ℕ, zero, suc, ◌+◌}
use native.Mathlib.Omega.{arith}
use lib.ListN.{length, length-append, length-replicate}
use Rattle.gf2.specs.Polynomial.{◌⊕◌, zeros, add, scale, mul, remainder, quotient, check_bits}
use Rattle.gf2.proofs.Sum.{xor-false, length-add, length-scale, scale-cons, scale-xor, add-zeros, add-to-zeros, add_same, add_none, add-self, add_assoc, add-swap, add-append}

-- ---- lengths

pub length-remainder : (g : List Bool) (k : ℕ) (w : List Bool) → length w ≡ k + length g → length (remainder g k w) ≡ length g
unfolding remainder
length-remainder g zero w e = e ∙ omega arith
length-remainder g (suc k) [] e = absurd (omega arith)
length-remainder g (suc k) (b ∷ w) e = length-remainder g k (add (scale b g) w) (length-add (scale b g) w ∙ omega arith)

pub length-mul : (g q : List Bool) → length (mul g q) ≡ length q + length g
unfolding mul
length-mul g [] = length-replicate (length g) false ∙ omega arith
length-mul g (b ∷ q) = length-add (scale b (true ∷ g)) (false ∷ mul g q) ∙ omega (arith, length-mul g q)

pub length-quotient : (g : List Bool) (k : ℕ) (w : List Bool) → length w ≡ k + length g → length (quotient g k w) ≡ k
unfolding quotient
length-quotient g zero w e = refl
length-quotient g (suc k) [] e = absurd (omega arith)
length-quotient g (suc k) (b ∷ w) e = ap suc (length-quotient g k (add (scale b g) w) (length-add (scale b g) w ∙ omega arith))

pub length-check : (g m : List Bool) → length (check_bits g m) ≡ length g
unfolding check_bits
length-check g m =
    length-remainder g (length m) (m ++ zeros (length g)) (length-append m (zeros (length g)) ∙ ap (length m +◌) (length-replicate (length g) false))

-- ---- the dividend is the quotient times the divisor, plus the remainder

pub mul-cons : (g : List Bool) (b : Bool) (q : List Bool) → mul g (b ∷ q) ≡ b ∷ add (scale b g) (mul g q)
unfolding mul add
mul-cons g b q = ap (λ u. add u (false ∷ mul g q)) (scale-cons b g) ∙ ap (◌∷ add (scale b g) (mul g q)) (xor-false b)

pub divides : (g : List Bool) (k : ℕ) (w : List Bool) → length w ≡ k + length g
    → w ≡ add (mul g (quotient g k w)) (zeros k ++ remainder g k w)
unfolding mul quotient remainder add
divides g zero w e = sym (add-zeros (length g) w)
divides g (suc k) [] e = absurd (omega arith)
divides g (suc k) (b ∷ w) e =
    let u = add (scale b g) w in
    let l : length u ≡ k + length g = length-add (scale b g) w ∙ omega arith in
    let m = mul g (quotient g k u) in
    let z = zeros k ++ remainder g k u in
    let lm : length m ≡ k + length g = length-mul g (quotient g k u) ∙ ap (◌+ length g) (length-quotient g k u l) in
    let t : add (add (scale b g) m) z ≡ w =
    add_assoc (scale b g) m z (omega (arith, length-scale b g)) ∙ ap (add (scale b g)) (sym (divides g k u l)) ∙ add-self (scale b g) w in
    sym (ap (λ v. add v (false ∷ z)) (mul-cons g b (quotient g k u)) ∙ ap₂ ◌∷◌ (xor-false b) t)

-- ---- the remainder of a sum is the sum of the remainders

pub remainder-add : (g : List Bool) (k : ℕ) (u w : List Bool) → length u ≡ k + length g → length w ≡ k + length g
    → remainder g k (add u w) ≡ add (remainder g k u) (remainder g k w)
unfolding remainder add
remainder-add g zero u w lu lw = refl
remainder-add g (suc k) [] w lu lw = absurd (omega arith)
remainder-add g (suc k) (a ∷ u) [] lu lw = absurd (omega arith)
remainder-add g (suc k) (a ∷ u) (b ∷ w) lu lw =
    let p = scale a g in
    let q = scale b g in
    let lp : length p ≡ length g = length-scale a g in
    let lq : length q ≡ length g = length-scale b g in
    let e : add (scale (a ⊕ b) g) (add u w) ≡ add (add p u) (add q w) =
    ap (λ x. add x (add u w)) (scale-xor a b g)
    ∙ add_assoc p q (add u w) (omega arith)
    ∙ ap (add p) (add-swap q u w)
    ∙ sym (add_assoc p u (add q w) (omega arith)) in
    ap (remainder g k) e
    ∙ remainder-add g k (add p u) (add q w) (length-add p u ∙ omega arith) (length-add q w ∙ omega arith)

-- ---- a word is a multiple of the divisor exactly if nothing remains

mul-nil : (g : List Bool) → mul g [] ≡ zeros (length g)
unfolding mul
mul-nil g = refl

pub remainder-mul : (g q : List Bool) → remainder g (length q) (mul g q) ≡ zeros (length g)
unfolding remainder
remainder-mul g [] = mul-nil g
remainder-mul g (b ∷ q) =
    ap (remainder g (suc (length q))) (mul-cons g b q) ∙ ap (remainder g (length q)) (add-self (scale b g) (mul g q)) ∙ remainder-mul g q

pub mul-quotient : (g : List Bool) (k : ℕ) (w : List Bool) → length w ≡ k + length g → remainder g k w ≡ zeros (length g) → w ≡ mul g (quotient g k w)
unfolding remainder quotient
mul-quotient g zero w h e = e ∙ sym (mul-nil g)
mul-quotient g (suc k) [] h e = absurd (omega arith)
mul-quotient g (suc k) (b ∷ w) h e =
    let u = add (scale b g) w in
    let l : length u ≡ k + length g = length-add (scale b g) w ∙ omega arith in
    sym (mul-cons g b (quotient g k u) ∙ ap (b ∷◌) (ap (add (scale b g)) (sym (mul-quotient g k u l e)) ∙ add-self (scale b g) w))

-- ---- check bits: m with its check bits is a multiple, and m with no others

-- what stands below the coefficients that are divided away is only added
pub remainder-low : (g : List Bool) (k : ℕ) (r w : List Bool) → remainder g k (add (zeros k ++ r) w) ≡ add r (remainder g k w)
unfolding remainder add
remainder-low g zero r w = refl
remainder-low g (suc k) [] [] = refl
remainder-low g (suc k) (x ∷ r) [] = refl
remainder-low g (suc k) r (b ∷ w) = ap (remainder g k) (add-swap (scale b g) (zeros k ++ r) w) ∙ remainder-low g k r (add (scale b g) w)

module _ (g m r : List Bool) (h : length r ≡ length g) where
  joined : m ++ r ≡ add (zeros (length m) ++ r) (m ++ zeros (length g))
  joined =
      sym
      (add-append (zeros (length m)) r m (zeros (length g)) (length-replicate (length m) false)
      ∙ ap₂ ◌++◌ (add-zeros (length m) m) (ap (λ n. add r (zeros n)) (sym h) ∙ add-to-zeros r))

  pub remainder-joined : remainder g (length m) (m ++ r) ≡ add r (check_bits g m)
  unfolding check_bits
  remainder-joined = ap (remainder g (length m)) joined ∙ remainder-low g (length m) r (m ++ zeros (length g))

  pub check-only : remainder g (length m) (m ++ r) ≡ zeros (length g) → r ≡ check_bits g m
  check-only e =
      add_none r (check_bits g m) (h ∙ sym (length-check g m)) (sym remainder-joined ∙ e ∙ ap zeros (sym (length-check g m)))

pub check-word : (g m : List Bool) → remainder g (length m) (m ++ check_bits g m) ≡ zeros (length g)
check-word g m = remainder-joined g m (check_bits g m) (length-check g m) ∙ add_same (check_bits g m) ∙ ap zeros (length-check g m)

-- the check bits of a sum
pub check-add : (g u w : List Bool) → length u ≡ length w → check_bits g (add u w) ≡ add (check_bits g u) (check_bits g w)
unfolding check_bits
check-add g u w l =
    let z = zeros (length g) in
    let n = length w in
    let long : (x : List Bool) → length x ≡ n → length (x ++ z) ≡ n + length g =
    λ x e. length-append x z ∙ ap₂ ◌+◌ e (length-replicate (length g) false) in
    let whole : add u w ++ z ≡ add (u ++ z) (w ++ z) = sym (add-append u z w z l ∙ ap (add u w ++◌) (add-zeros (length g) z)) in
    ap₂ (remainder g) (length-add u w) whole
    ∙ remainder-add g n (u ++ z) (w ++ z) (long u l) (long w refl)
    ∙ ap (λ k. add (remainder g k (u ++ z)) (check_bits g w)) (sym l)
