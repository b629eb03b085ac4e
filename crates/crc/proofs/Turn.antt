-- Several bits into a register at once, as numbers: shift, add the remainder of what leaves it. Assumes nothing.
use mathlib.Core.Path.{◌≡◌, sym, ap, ap₂, ◌∙◌}
use mathlib.Core.Bool.{Bool, false}
use mathlib.Core.List.{List, ◌++◌, append-nil}
use Prim.Native.Nat.{ℕ, ◌+◌, ◌-◌, ◌*◌, ◌/◌, ◌%◌, ◌^◌, ◌≤◌, ◌<◌}
use native.Mathlib.Omega.{arith}
use lib.ListN.{length, take, drop, length-append, length-drop, length-replicate, take-append-drop}
use lib.Seq.{length-take-le}
use lib.Bits.{bit_xor, xor_lt}
use lib.Pow.{high, low, pow-add, shl_lt, shr_lt}
use Rattle.gf2.specs.Polynomial.{zeros, add, check_bits}
use Rattle.gf2.specs.Register.{feed}
use Rattle.gf2.proofs.Sum.{length-add}
use Rattle.gf2.proofs.Register.{length-feed, feed-append, feed-high, feed-check, feed-zeros}
use Rattle.bits.specs.Bits.{value, bits_of}
use Rattle.bits.proofs.Bits.{length-bits_of, value-lt, value-append, value-zeros, bits_of-value, value-bits_of-fit}
use Rattle.crc.specs.Remainders.{remainder_of}
use Rattle.lanes.proofs.Number.{value-add, bits_of-wider}

-- a register of j + k bits: its k high bits, and the j that stay when k come in
module _ (r : List Bool) (j k : ℕ) (lr : length r ≡ j + k) where
  length_high : length (take k r) ≡ k
  length_high = length-take-le k r (omega arith)

  length-low : length (drop k r) ≡ j
  length-low = length-drop k r ∙ omega arith

  low-lt : value (drop k r) < 2 ^ j
  low-lt = rw length-low at (value-lt (drop k r))

  value-split : value r ≡ value (take k r) * 2 ^ j + value (drop k r)
  value-split =
      ap value (sym (take-append-drop k r))
      ∙ value-append (take k r) (drop k r)
      ∙ ap (λ i. value (take k r) * 2 ^ i + value (drop k r)) length-low

  value-high : value r / 2 ^ j ≡ value (take k r)
  value-high = ap (◌/ 2 ^ j) value-split ∙ high (value (take k r)) j low-lt

  value_shifted : value r * 2 ^ k % 2 ^ (j + k) ≡ value (drop k r ++ zeros k)
  value_shifted =
      let q : value r * 2 ^ k ≡ value (take k r) * 2 ^ (j + k) + value (drop k r) * 2 ^ k = rw (value-split, pow-add 2 j k) (omega arith) in
      ap (◌% 2 ^ (j + k)) q
      ∙ low (value (take k r)) (j + k) (shl_lt j k low-lt)
      ∙ sym (value-append (drop k r) (zeros k) ∙ rw (value-zeros k, length-replicate k false) (omega arith))

-- k bits into a register of n
pub feed-number : (g r m : List Bool) (n j k : ℕ) → length g ≡ n → length r ≡ n → length m ≡ k → j + k ≡ n → 0 < n
    → value (feed g r m) ≡ bit_xor (value r * 2 ^ k % 2 ^ n) (value (feed g (zeros n) (bits_of k (bit_xor (value r / 2 ^ j) (value m)))))
feed-number g r m n j k lg lr lm e pos =
    let hi = take k r in
    let lo = drop k r in
    let s : length r ≡ j + k = lr ∙ sym e in
    let lh : length hi ≡ k = length_high r j k s in
    let ll : length lo ≡ j = length-low r j k s in
    let i : add hi m ≡ bits_of k (bit_xor (value r / 2 ^ j) (value m)) =
    sym (bits_of-value (add hi m))
    ∙ ap₂ bits_of (length-add hi m ∙ lm) (value-add hi m (lh ∙ sym lm) ∙ ap (λ v. bit_xor v (value m)) (sym (value-high r j k s))) in
    let f : feed g r m ≡ add (lo ++ zeros k) (feed g (zeros n) (add hi m)) =
    ap (λ x. feed g x m) (sym (take-append-drop k r))
    ∙ feed-high g hi lo m n lg pos (lh ∙ sym lm) (ap₂ ◌+◌ ll lm ∙ e)
    ∙ ap (λ x. add (lo ++ zeros x) (feed g (zeros n) (add hi m))) lm in
    let l : length (lo ++ zeros k) ≡ length (feed g (zeros n) (add hi m)) =
    length-append lo (zeros k)
    ∙ ap₂ ◌+◌ ll (length-replicate k false)
    ∙ e
    ∙ sym (length-feed g (zeros n) (add hi m) ∙ length-replicate n false) in
    ap value f
    ∙ value-add (lo ++ zeros k) (feed g (zeros n) (add hi m)) l
    ∙ ap₂ bit_xor (sym (ap (λ x. value r * 2 ^ k % 2 ^ x) (sym e) ∙ value_shifted r j k s)) (ap (λ x. value (feed g (zeros n) x)) i)

-- the remainder of a byte is that of fewer bits: leading zeros leave a register of zeros as it is
remainder-feed : (g : List Bool) (n k i : ℕ) → length g ≡ n → 0 < n → k ≤ 8 → i < 2 ^ k → remainder_of g 0 i ≡ value (feed g (zeros n) (bits_of k i))
unfolding remainder_of
remainder-feed g n k i lg pos hk hi =
    let j = 8 - k in
    let e : j + k ≡ 8 = omega arith in
    let w : bits_of 8 i ≡ zeros j ++ bits_of k i = ap (λ a. bits_of a i) (sym e) ∙ bits_of-wider j k i hi in
    ap value
    (ap (check_bits g) (append-nil (bits_of 8 i))
    ∙ sym (feed-check g (bits_of 8 i) (rw lg pos))
    ∙ ap₂ (λ a x. feed g (zeros a) x) lg w
    ∙ feed-append g (zeros n) (zeros j) (bits_of k i)
    ∙ ap (λ x. feed g x (bits_of k i)) (feed-zeros g n j))

-- in the words of the code: the register v, k bits w
module _ (v w n j k : ℕ) (e : j + k ≡ n) (hv : v < 2 ^ n) (hw : w < 2 ^ k) where
  pub index-lt : bit_xor (v / 2 ^ j) w < 2 ^ k
  index-lt =
      let s : k + j ≡ n = omega arith in
      xor_lt k (v / 2 ^ j) w (shr_lt k j (rw s hv)) hw

  pub turn : (g : List Bool) → length g ≡ n → 0 < n → k ≤ 8
      → bit_xor (v * 2 ^ k % 2 ^ n) (remainder_of g 0 (bit_xor (v / 2 ^ j) w)) ≡ value (feed g (bits_of n v) (bits_of k w))
  turn g lg pos hk =
      let q = feed-number g (bits_of n v) (bits_of k w) n j k lg (length-bits_of n v) (length-bits_of k w) e pos in
      ap (bit_xor (v * 2 ^ k % 2 ^ n)) (remainder-feed g n k (bit_xor (v / 2 ^ j) w) lg pos hk index-lt)
      ∙ sym (rw (value-bits_of-fit n v hv, value-bits_of-fit k w hw) at q)

-- ---- the register as a number

-- no bits leave it
pub feed-nothing : (g : List Bool) (n r v : ℕ) → r < 2 ^ n → value (feed g (bits_of n r) (bits_of 0 v)) ≡ r
unfolding feed bits_of
feed-nothing g n r v h = value-bits_of-fit n r h

-- after the bits x it takes in y
pub feed-more : (g : List Bool) (n r z : ℕ) (x y : List Bool) → z ≡ value (feed g (bits_of n r) x)
    → value (feed g (bits_of n z) y) ≡ value (feed g (bits_of n r) (x ++ y))
feed-more g n r z x y e =
    let f = feed g (bits_of n r) x in
    let l : length f ≡ n = length-feed g (bits_of n r) x ∙ length-bits_of n r in
    let held : bits_of n z ≡ f = ap (bits_of n) e ∙ ap (λ k. bits_of k (value f)) (sym l) ∙ bits_of-value f in
    ap value (ap (λ b. feed g b y) held ∙ sym (feed-append g (bits_of n r) x y))
