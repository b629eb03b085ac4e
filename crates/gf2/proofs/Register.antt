-- The register computes the remainder; it comes to zero on its own bits, and on no others. Assumes nothing.
use mathlib.Core.Path.{◌≡◌, refl, sym, ap, ap₂, ◌∙◌}
use mathlib.Core.Bool.{Bool, true, false}
use mathlib.Core.List.{List, [], ◌∷◌, ◌++◌, append_assoc, append-nil}
use Prim.Native.Nat.{ℕ, zero, suc, ◌+◌, ◌≤◌, ◌<◌}
use native.Mathlib.Nat.{le_of_suc-le-suc, not-suc-le-zero}
use native.Mathlib.Omega.{arith}
use lib.ListN.{length, get_or, take, length-append, length-replicate}
use lib.Seq.{get_or-append_seam, take_at}
use Rattle.gf2.specs.Polynomial.{◌⊕◌, zeros, add, scale, remainder, check_bits}
use Rattle.gf2.specs.Register.{step, feed}
use Rattle.gf2.proofs.Sum.{xor-false, xor_same, xor-none, length-add, length-scale, add-zeros, add-to-zeros, add_assoc, add-append, add-shifted, add-over, add-to-more, get_or-add, get_or-scale}
use Rattle.gf2.proofs.Division.{remainder-low, check-add}

-- ---- lengths, and rows of bits

pub length-step : (g r : List Bool) (b : Bool) → length (step g r b) ≡ length r
unfolding step
length-step g [] b = refl
length-step g (h ∷ t) b = length-add (scale (h ⊕ b) g) (t ++ (false ∷ [])) ∙ length-append t (false ∷ []) ∙ omega arith

pub length-feed : (g r m : List Bool) → length (feed g r m) ≡ length r
unfolding feed
length-feed g r [] = refl
length-feed g r (b ∷ m) = length-feed g (step g r b) m ∙ length-step g r b

pub feed-append : (g r m x : List Bool) → feed g r (m ++ x) ≡ feed g (feed g r m) x
unfolding feed
feed-append g r [] x = refl
feed-append g r (b ∷ m) x = feed-append g (step g r b) m x

pub feed-snoc : (g r m : List Bool) (b : Bool) → feed g r (m ++ (b ∷ [])) ≡ step g (feed g r m) b
unfolding feed
feed-snoc g r m b = feed-append g r m (b ∷ [])

-- ---- the remainder

pub feed-remainder : (g r m : List Bool) → length r ≡ length g → 0 < length g
    → feed g r m ≡ remainder g (length m) (add r (m ++ zeros (length g)))
unfolding feed remainder step add
feed-remainder g r [] e h = sym (ap (λ k. add r (zeros k)) (sym e) ∙ add-to-zeros r)
feed-remainder g [] (b ∷ m) e h = absurd (omega arith)
feed-remainder g (x ∷ t) (b ∷ m) e h =
    let z = m ++ zeros (length g) in
    let f = scale (x ⊕ b) g in
    let s = t ++ (false ∷ []) in
    feed-remainder g (add f s) m (length-add f s ∙ length-append t (false ∷ []) ∙ omega arith) h
    ∙ ap (remainder g (length m))
    (add_assoc f s z (omega (arith, length-scale (x ⊕ b) g, length-append t (false ∷ []))) ∙ ap (add f) (add-shifted t 1 z))

-- a turn, with no bit going in, is one step of long division of the register's polynomial times x
pub turn-remainder : (g r : List Bool) → step g r false ≡ remainder g 1 (r ++ zeros 1)
unfolding step remainder scale
turn-remainder g [] = sym (add-zeros (length g) [])
turn-remainder g (h ∷ t) = ap (λ b. add (scale b g) (t ++ (false ∷ []))) (xor-false h)

-- from a register of zeros: the check bits
pub feed-check : (g m : List Bool) → 0 < length g → feed g (zeros (length g)) m ≡ check_bits g m
unfolding check_bits
feed-check g m h =
    feed-remainder g (zeros (length g)) m (length-replicate (length g) false) h
    ∙ ap (remainder g (length m)) (add-zeros (length g) (m ++ zeros (length g)))

-- ---- zeros

zeros-snoc : (k : ℕ) → zeros k ++ (false ∷ []) ≡ zeros (suc k)
zeros-snoc zero = refl
zeros-snoc (suc k) = ap (false ∷◌) (zeros-snoc k)

step-zeros : (g : List Bool) (n : ℕ) → step g (zeros n) false ≡ zeros n
unfolding step scale
step-zeros g zero = refl
step-zeros g (suc n) = add-zeros (length g) (zeros n ++ (false ∷ [])) ∙ zeros-snoc n

-- a register of zeros stays so on zeros
pub feed-zeros : (g : List Bool) (n k : ℕ) → feed g (zeros n) (zeros k) ≡ zeros n
unfolding feed
feed-zeros g n zero = refl
feed-zeros g n (suc k) = ap (λ r. feed g r (zeros k)) (step-zeros g n) ∙ feed-zeros g n k

-- ---- a register that is fed its own bits comes to zero

feed-front : (g x : List Bool) (k : ℕ) → feed g (x ++ zeros k) x ≡ zeros (length x + k)
unfolding feed step scale
feed-front g [] k = let n : k ≡ 0 + k = omega arith in ap zeros n
feed-front g (h ∷ t) k =
    let e : step g (h ∷ (t ++ zeros k)) h ≡ t ++ zeros (suc k) =
    ap (λ p. add (scale p g) ((t ++ zeros k) ++ (false ∷ []))) (xor_same h)
    ∙ add-zeros (length g) ((t ++ zeros k) ++ (false ∷ []))
    ∙ append_assoc t (zeros k) (false ∷ [])
    ∙ ap (t ++◌) (zeros-snoc k) in
    let n : length t + suc k ≡ suc (length t) + k = omega arith in
    ap (λ r. feed g r t) e ∙ feed-front g t (suc k) ∙ ap zeros n

pub feed-own : (g r : List Bool) → feed g r r ≡ zeros (length r)
feed-own g r =
    let n : length r + 0 ≡ length r = omega arith in
    ap (λ x. feed g x r) (sym (append-nil r)) ∙ feed-front g r 0 ∙ ap zeros n

-- ---- and on no other bits, where the divisor's lowest coefficient is 1

past : (x : List Bool) (j i : ℕ) → length x ≤ i → get_or (x ++ zeros j) i false ≡ false
past [] zero i h = refl
past [] (suc j) zero h = refl
past [] (suc j) (suc i) h = past [] j i (omega arith)
past (b ∷ x) j zero h = absurd (not-suc-le-zero h)
past (b ∷ x) j (suc i) h = past x j i (le_of_suc-le-suc h)

front : (t x : List Bool) (j : ℕ) → t ++ (false ∷ []) ≡ x ++ zeros (suc j) → length t ≡ length x + j → t ≡ x ++ zeros j
front t x j e l =
    let a : x ++ zeros (suc j) ≡ (x ++ zeros j) ++ (false ∷ []) = ap (x ++◌) (sym (zeros-snoc j)) ∙ sym (append_assoc x (zeros j) (false ∷ [])) in
    let n : length (x ++ zeros j) ≡ length t = length-append x (zeros j) ∙ ap (length x +◌) (length-replicate j false) ∙ sym l in
    sym (take_at t (false ∷ []) (length t) refl) ∙ ap (take (length t)) (e ∙ a) ∙ take_at (x ++ zeros j) (false ∷ []) (length t) n

only : (g r x : List Bool) (j n : ℕ) → length g ≡ suc n → length r ≡ suc n → get_or g n false ≡ true → length x + j ≡ suc n
    → feed g r x ≡ zeros (suc n) → r ≡ x ++ zeros j
unfolding feed step scale
only g r [] j n lg lr o lx e = let k : suc n ≡ j = omega arith in e ∙ ap zeros k
only g [] (b ∷ x) j n lg lr o lx e = absurd (omega arith)
only g (h ∷ t) (b ∷ x) j n lg lr o lx e =
    let q = h ⊕ b in
    let s = add (scale q g) (t ++ (false ∷ [])) in
    let lt : length t ≡ n = omega arith in
    let ih : s ≡ x ++ zeros (suc j) = only g s x (suc j) n lg (length-step g (h ∷ t) b ∙ lr) o (omega arith) e in
    let la : length (t ++ (false ∷ [])) ≡ suc n = length-append t (false ∷ []) ∙ omega arith in
    let m : get_or s n false ≡ q =
    get_or-add (scale q g) (t ++ (false ∷ [])) n (omega arith)
    ∙ ap₂ ◌⊕◌ (get_or-scale q g n (omega arith) o) (ap (λ k. get_or (t ++ (false ∷ [])) k false) (sym lt) ∙ get_or-append_seam t false [] false)
    ∙ xor-false q in
    let z : q ≡ false = sym m ∙ ap (λ y. get_or y n false) ih ∙ past x (suc j) n (omega arith) in
    let f : t ++ (false ∷ []) ≡ x ++ zeros (suc j) =
    sym (add-zeros (length g) (t ++ (false ∷ []))) ∙ ap (λ p. add (scale p g) (t ++ (false ∷ []))) (sym z) ∙ ih in
    ap₂ ◌∷◌ (xor-none h b z) (front t x j f (omega arith))

pub feed-only : (g r x : List Bool) (n : ℕ) → length g ≡ suc n → length r ≡ suc n → length x ≡ suc n → get_or g n false ≡ true
    → feed g r x ≡ zeros (suc n) → r ≡ x
feed-only g r x n lg lr lx o e = only g r x 0 n lg lr o (omega arith) e ∙ append-nil x

-- ---- several bits at once

-- the bits m into a register hi ++ lo, with hi as long as m: by the register from zeros, at hi + m
pub feed-high : (g hi lo m : List Bool) (n : ℕ) → length g ≡ n → 0 < n → length hi ≡ length m → length lo + length m ≡ n
    → feed g (hi ++ lo) m ≡ add (lo ++ zeros (length m)) (feed g (zeros n) (add hi m))
feed-high g hi lo m n lg h eh el =
    let k = length m in
    let z = zeros (length g) in
    let p = add hi m in
    let e = lo ++ zeros k in
    let lp : length p ≡ k = length-add hi m in
    let le : length e ≡ length g = length-append lo (zeros k) ∙ ap (length lo +◌) (length-replicate k false) ∙ el ∙ sym lg in
    let lr : length (hi ++ lo) ≡ length g = length-append hi lo ∙ omega arith in
    let lz : length (zeros k) ≡ length p = length-replicate k false ∙ sym lp in
    let a₁ : add (hi ++ lo) (m ++ z) ≡ p ++ e =
    add-append hi lo m z eh ∙ ap (λ x. p ++ add lo (zeros x)) (lg ∙ sym el) ∙ ap (p ++◌) (add-to-more lo k) in
    let a₂ : add (zeros k ++ e) (p ++ z) ≡ p ++ e =
    add-append (zeros k) e p z lz ∙ ap₂ ◌++◌ (add-zeros k p) (ap (λ x. add e (zeros x)) (sym le) ∙ add-to-zeros e) in
    let b : feed g (zeros n) p ≡ remainder g k (p ++ z) =
    feed-remainder g (zeros n) p (length-replicate n false ∙ sym lg) (omega arith) ∙ ap₂ (remainder g) lp (add-zeros n (p ++ z)) in
    feed-remainder g (hi ++ lo) m lr (omega arith) ∙ ap (remainder g k) (a₁ ∙ sym a₂) ∙ remainder-low g k e (p ++ z) ∙ ap (add e) (sym b)

-- as many bits as the register has, or more: it is added to the first of them
pub feed-long : (g r m : List Bool) → length r ≡ length g → 0 < length g → length g ≤ length m → feed g r m ≡ check_bits g (add r m)
unfolding check_bits
feed-long g r m e h l = feed-remainder g r m e h ∙ ap₂ (remainder g) (sym (length-add r m)) (add-over r m (zeros (length g)) (omega arith))

-- zeros before a message leave its check bits as they are
pub check-after-zeros : (g : List Bool) (k : ℕ) (m : List Bool) → 0 < length g → check_bits g (zeros k ++ m) ≡ check_bits g m
check-after-zeros g k m h =
    let z = zeros (length g) in
    sym (feed-check g (zeros k ++ m) h) ∙ feed-append g z (zeros k) m ∙ ap (λ r. feed g r m) (feed-zeros g (length g) k) ∙ feed-check g m h

-- the check bits of x and then y: of x with zeros in the place of y, and of y
pub check-append : (g x y : List Bool) → 0 < length g → check_bits g (x ++ y) ≡ add (check_bits g (x ++ zeros (length y))) (check_bits g y)
check-append g x y h =
    let front = x ++ zeros (length y) in
    let back = zeros (length x) ++ y in
    let lf : length front ≡ length x + length y = length-append x (zeros (length y)) ∙ ap (length x +◌) (length-replicate (length y) false) in
    let lb : length back ≡ length x + length y = length-append (zeros (length x)) y ∙ ap (◌+ length y) (length-replicate (length x) false) in
    let parts : add front back ≡ x ++ y =
    add-append x (zeros (length y)) (zeros (length x)) y (sym (length-replicate (length x) false))
    ∙ ap₂ ◌++◌ (add-to-zeros x) (add-zeros (length y) y) in
    ap (check_bits g) (sym parts)
    ∙ check-add g front back (lf ∙ sym lb)
    ∙ ap (add (check_bits g front)) (check-after-zeros g (length x) y h)
