-- Rows of bits: their sums as numbers, wider rows, and rows of shifted and joined words. Assumes nothing.
use mathlib.Core.Path.{◌≡◌, refl, sym, ap, ap₂, ◌∙◌}
use mathlib.Core.Bool.{Bool, true, false}
use mathlib.Core.List.{List, [], ◌∷◌, ◌++◌}
use Prim.Native.Nat.{ℕ, ◌+◌, ◌*◌, ◌/◌, ◌%◌, ◌^◌, ◌<◌}
use native.Mathlib.Nat.{lt_of_lt_of_le, mod-mod, mod-lt, mul-mod_left}
use native.Mathlib.Omega.{arith}
use lib.ListN.{length, length-append, length-replicate}
use lib.Bits.{bit_xor, bit_or, xor_comm, xor_block, xor_mod, or_shifted_r}
use lib.Pow.{pow_pos, pow_mono, shr_lt, shl-shr, mod-pow-add, high, low}
use Rattle.gf2.specs.Polynomial.{◌⊕◌, zeros, add}
use Rattle.gf2.proofs.Sum.{length-add, add-self}
use Rattle.bits.specs.Bits.{digit, value, bits_of}
use Rattle.bits.proofs.Bits.{length-bits_of, value-lt, value-inj, value-append, value-zeros, value-bits_of, value-bits_of-fit, bits_of-add}

xor-digit : (a b : Bool) → bit_xor (digit a) (digit b) ≡ digit (a ⊕ b)
unfolding digit
xor-digit true true = refl
xor-digit true false = refl
xor-digit false true = refl
xor-digit false false = refl

-- the sum of two rows is the exclusive or of their numbers
pub value-add : (u w : List Bool) → length u ≡ length w → value (add u w) ≡ bit_xor (value u) (value w)
unfolding add value
value-add [] [] e = refl
value-add [] (b ∷ w) e = absurd (omega arith)
value-add (a ∷ u) [] e = absurd (omega arith)
value-add (a ∷ u) (b ∷ w) e =
    let l : length u ≡ length w = omega arith in
    rw (length-add u w, value-add u w l, l)
    (sym
    (xor_block (length w) (digit a) (digit b) (value u) (value w) (rw l at (value-lt u)) (value-lt w)
    ∙ ap (λ d. d * 2 ^ length w + bit_xor (value u) (value w)) (xor-digit a b)))

-- a number of k bits in a wider row
pub bits_of-wider : (j k v : ℕ) → v < 2 ^ k → bits_of (j + k) v ≡ zeros j ++ bits_of k v
bits_of-wider j k v h =
    let lz : length (zeros j) ≡ j = length-replicate j false in
    let l : length (bits_of (j + k) v) ≡ length (zeros j ++ bits_of k v) = rw (length-bits_of, length-append, length-bits_of, lz) in
    let w : v < 2 ^ (j + k) = lt_of_lt_of_le h (pow_mono {i = k} {j = j + k} (omega arith)) in
    value-inj (bits_of (j + k) v) (zeros j ++ bits_of k v) l
    (value-bits_of-fit (j + k) v w ∙ sym (value-append (zeros j) (bits_of k v) ∙ rw (value-zeros j, value-bits_of-fit k v h) (omega arith)))

-- the sum of the low bits of two numbers
pub add-bits_of : (k x y : ℕ) → add (bits_of k x) (bits_of k y) ≡ bits_of k (bit_xor x y)
add-bits_of k x y =
    let lx = length-bits_of k x in
    let ly = length-bits_of k y in
    value-inj (add (bits_of k x) (bits_of k y)) (bits_of k (bit_xor x y)) (length-add (bits_of k x) (bits_of k y) ∙ ly ∙ sym (length-bits_of k (bit_xor x y)))
    (value-add (bits_of k x) (bits_of k y) (lx ∙ sym ly)
    ∙ ap₂ bit_xor (value-bits_of k x) (value-bits_of k y)
    ∙ sym (value-bits_of k (bit_xor x y) ∙ xor_mod x y k))

-- higher bits do not count
pub bits_of-low : (k v : ℕ) → bits_of k (v % 2 ^ k) ≡ bits_of k v
bits_of-low k v =
    value-inj (bits_of k (v % 2 ^ k)) (bits_of k v) (length-bits_of k (v % 2 ^ k) ∙ sym (length-bits_of k v))
    (value-bits_of k (v % 2 ^ k) ∙ mod-mod v (2 ^ k) ∙ sym (value-bits_of k v))

-- two bytes that are the same with y added are the same
pub xor-same-byte : (a b y : ℕ) → a < 256 → b < 256 → bit_xor a y ≡ bit_xor b y → a ≡ b
xor-same-byte a b y ha hb e =
    let back : (x : ℕ) → bits_of 8 x ≡ add (bits_of 8 y) (bits_of 8 (bit_xor x y)) =
    λ x. sym (ap (add (bits_of 8 y)) (ap (bits_of 8) (xor_comm x y) ∙ sym (add-bits_of 8 y x)) ∙ add-self (bits_of 8 y) (bits_of 8 x)) in
    sym (value-bits_of-fit 8 a ha) ∙ ap value (back a ∙ ap (λ k. add (bits_of 8 y) (bits_of 8 k)) e ∙ sym (back b)) ∙ value-bits_of-fit 8 b hb

-- ---- shifts

-- a number moved on by m bits
shl-cut : (k m y : ℕ) → y * 2 ^ m % 2 ^ (k + m) ≡ y % 2 ^ k * 2 ^ m
shl-cut k m y =
    mod-pow-add (y * 2 ^ m) k m
    ∙ ap₂ (λ a b. a % 2 ^ k * 2 ^ m + b) (shl-shr y m) (mul-mod_left y (2 ^ m))
    ∙ omega arith

-- the bits of a number that is moved on by m bits
pub bits_of-shl : (k m y : ℕ) → bits_of (k + m) (y * 2 ^ m % 2 ^ (k + m)) ≡ bits_of k y ++ zeros m
bits_of-shl k m y =
    let lz : length (zeros m) ≡ m = length-replicate m false in
    let z : value (zeros m) ≡ 0 = value-zeros m in
    value-inj (bits_of (k + m) (y * 2 ^ m % 2 ^ (k + m))) (bits_of k y ++ zeros m)
    (length-bits_of (k + m) (y * 2 ^ m % 2 ^ (k + m)) ∙ sym (length-append (bits_of k y) (zeros m) ∙ ap₂ ◌+◌ (length-bits_of k y) lz))
    (value-bits_of-fit (k + m) (y * 2 ^ m % 2 ^ (k + m)) (mod-lt (y * 2 ^ m) (pow_pos (k + m)))
    ∙ shl-cut k m y
    ∙ sym (value-append (bits_of k y) (zeros m) ∙ ap₂ (λ n a. value (bits_of k y) * 2 ^ n + a) lz z ∙ ap (λ a. a * 2 ^ m + 0) (value-bits_of k y) ∙ omega arith))

-- the k low bits of y and the m high bits of x in one word
pub bits_of-join : (k m x y : ℕ) → x < 2 ^ (m + k) → bits_of (k + m) (bit_or (x / 2 ^ k) (y * 2 ^ m % 2 ^ (k + m))) ≡ bits_of k y ++ bits_of m (x / 2 ^ k)
bits_of-join k m x y h =
    let s : x / 2 ^ k < 2 ^ m = shr_lt m k h in
    ap (λ n. bits_of (k + m) (bit_or (x / 2 ^ k) n)) (shl-cut k m y)
    ∙ ap (bits_of (k + m)) (or_shifted_r (y % 2 ^ k) m (x / 2 ^ k) s)
    ∙ bits_of-add k m (y % 2 ^ k * 2 ^ m + x / 2 ^ k)
    ∙ ap₂ ◌++◌ (ap (bits_of k) (high (y % 2 ^ k) m s) ∙ bits_of-low k y)
    (sym (bits_of-low m (y % 2 ^ k * 2 ^ m + x / 2 ^ k)) ∙ ap (bits_of m) (low (y % 2 ^ k) m s))
