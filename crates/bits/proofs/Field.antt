-- Laws of one field in a row of bytes.
-- Assumes nothing.
use mathlib.Core.Logic.{◌⊎◌, inl, inr}
use mathlib.Core.Path.{◌≡◌, refl, sym, ap, ap₂, ◌∙◌, subst}
use mathlib.Core.Bool.{Bool, true, false, cond, and-eq-true_iff, and-false}
use mathlib.Core.List.{List, ◌++◌, append_assoc}
use Prim.Native.Nat.{ℕ, suc, ◌+◌, ◌-◌, ◌*◌, ◌/◌, ◌%◌, ◌^◌, ◌≤◌, ◌<◌}
use native.Mathlib.Nat.{mod-eq_of_lt, div-one, mul_assoc, add-mul}
use native.Mathlib.Omega.{arith}
use lib.Bits.{bit_or, or_shifted, or_zero_l}
use lib.Dec.{leb}
use borrow.Author.Tests.{le-leb, lt-leb, leb-true}
use lib.Pow.{pow-add, shl_lt, shl_exact, high, low}
use lib.ListN.{length, get_or, set, take, drop, length-append, length-take, length-drop, get_or-append}
use lib.Seq.{paste, take_at, drop_at, get_or-append-add, length-take-le, get_or-take, get_or-drop, drop-drop, drop-cons, take-add, take-append-le, drop-append-le, length_paste_head, length-paste, ext_get_or, take-paste, drop-paste, take_all}
use Rattle.bits.specs.Bits.{value, bits_of, bits, bytes, Bytes}
use Rattle.bits.specs.Field.{field_at, put_bits, within, get_of, put_of}
use Rattle.bits.proofs.Bits.{length-bits_of, length-bits, length-bytes, bits-bytes, value-bits_of, value-bits_of-fit, value-append, value-lt, value-take-lt, value-inj, bits_of-value, bits_of-add, take-drop-bits_of, bits-drop, bits-split, bits-set}

-- ---- the test that a field lies in the bytes

pub within-true : (n k w : ℕ) → within n k w ≡ true → (w ≤ 64) × (k + w ≤ 8 * n)
within-true n k w e =
    let h = (and-eq-true_iff (leb w 64) (leb (k + w) (8 * n))).0 e in
    (leb-true w 64 h.0, leb-true (k + w) (8 * n) h.1)

pub within-room : (n k w : ℕ) → w ≤ 64 → k + w ≤ 8 * n → within n k w ≡ true
within-room n k w h r = rw (le-leb w 64 h) (le-leb (k + w) (8 * n) r)

pub within-wide : (n k w : ℕ) → 64 < w → within n k w ≡ false
within-wide n k w h = rw (lt-leb w 64 h)

pub within-past : (n k w : ℕ) → 8 * n < k + w → within n k w ≡ false
within-past n k w h = rw (lt-leb (k + w) (8 * n) h) (and-false (leb w 64))

-- ---- a field that was put

-- read where it was put
pub put_same : (l : List Bool) (k w v : ℕ) → k + w ≤ length l → v < 2 ^ w → value (take w (drop k (paste l k (bits_of w v) w))) ≡ v
put_same l k w v h f =
    let e : take w (bits_of w v) ≡ bits_of w v = take_all w (bits_of w v) (rw length-bits_of (omega arith)) in
    ap value
    (ap (take w) (ap (drop k) (append_assoc (take k l) (take w (bits_of w v)) (drop (k + w) l))
    ∙ drop_at (take k l) (take w (bits_of w v) ++ drop (k + w) l) k (length-take-le k l (omega arith)))
    ∙ ap (λ (x : List Bool). take w (x ++ drop (k + w) l)) e
    ∙ take_at (bits_of w v) (drop (k + w) l) w (length-bits_of w v))
    ∙ value-bits_of-fit w v f

-- the bits before and after stay
pub put-before : (l x : List Bool) (k w i : ℕ) → k ≤ length l → i < k → get_or (paste l k x w) i false ≡ get_or l i false
put-before l x k w i h hi =
    let lk : length (take k l) ≡ k = length-take-le k l h in
    ap (λ (y : List Bool). get_or y i false) (append_assoc (take k l) (take w x) (drop (k + w) l))
    ∙ get_or-append (take k l) (take w x ++ drop (k + w) l) false i (omega arith)
    ∙ get_or-take k l i false hi

pub put-after : (l x : List Bool) (k w i : ℕ) → k + w ≤ length l → length x ≡ w → get_or (paste l k x w) (k + w + i) false ≡ get_or l (k + w + i) false
put-after l x k w i h e =
    let lp : length (take k l ++ take w x) ≡ k + w = length_paste_head l k x w (omega arith) (omega arith) in
    ap (λ (n : ℕ). get_or (paste l k x w) (n + i) false) (sym lp)
    ∙ get_or-append-add (take k l ++ take w x) (drop (k + w) l) i false
    ∙ get_or-drop (k + w) l i false

-- ---- what `put` leaves

pub length-put_of : (s : List ℕ) (k w v : ℕ) → length (put_of s k w v) ≡ length s
length-put_of s k w v = go (within (length s) k w)
  where
    go : (t : Bool) → length (cond t (bytes (length s) (put_bits s k w v)) s) ≡ length s
    go true = length-bytes (length s) (put_bits s k w v)
    go false = refl

length-bits-put_of : (s : List ℕ) (k w v : ℕ) → length (bits (put_of s k w v)) ≡ length (bits s)
length-bits-put_of s k w v = length-bits (put_of s k w v) ∙ ap (λ (n : ℕ). 8 * n) (length-put_of s k w v) ∙ sym (length-bits s)

pub bits-put_of : (s : List ℕ) (k w v : ℕ) → within (length s) k w ≡ true → bits (put_of s k w v) ≡ put_bits s k w v
bits-put_of s k w v e =
    let h : k + w ≤ 8 * length s = (within-true (length s) k w e).1 in
    ap (λ (t : Bool). bits (cond t (bytes (length s) (put_bits s k w v)) s)) e
    ∙ bits-bytes (length s) (put_bits s k w v) (length-paste (bits s) k (bits_of w v) w (rw length-bits h) (rw length-bits_of (omega arith)) ∙ length-bits s)

-- a value that fits is found again
pub get_of-put_of : (s : List ℕ) (k w v : ℕ) → within (length s) k w ≡ true → v < 2 ^ w → get_of (put_of s k w v) k w ≡ v
get_of-put_of s k w v e f =
    let h : k + w ≤ 8 * length s = (within-true (length s) k w e).1 in
    let t : within (length (put_of s k w v)) k w ≡ true = ap (λ (n : ℕ). within n k w) (length-put_of s k w v) ∙ e in
    ap (λ (b : Bool). cond b (field_at (put_of s k w v) k w) 0) t
    ∙ ap (λ (l : List Bool). value (take w (drop k l))) (bits-put_of s k w v e)
    ∙ put_same (bits s) k w v (rw length-bits h) f

-- the n bits from bit i on are the same where each of them is
same_bits : (l m : List Bool) (i n : ℕ) → length l ≡ length m → ((j : ℕ) → j < n → get_or l (i + j) false ≡ get_or m (i + j) false)
    → take n (drop i l) ≡ take n (drop i m)
same_bits l m i n e h =
    ext_get_or false (take n (drop i l)) (take n (drop i m)) (simp (length-take, length-drop) (omega arith))
    (λ j hj. let jn : j < n = omega (arith, length-take n (drop i l)) in
    get_or-take n (drop i l) j false jn ∙ get_or-drop i l j false ∙ h j jn ∙ sym (get_or-take n (drop i m) j false jn ∙ get_or-drop i m j false))

-- a field of n bits that ends before the one that is put, or begins after it, stays
field-before : (s : List ℕ) (k w v i n : ℕ) → within (length s) k w ≡ true → i + n ≤ k → field_at (put_of s k w v) i n ≡ field_at s i n
field-before s k w v i n e h =
    let r = (within-true (length s) k w e).1 in
    ap value (same_bits (bits (put_of s k w v)) (bits s) i n (length-bits-put_of s k w v)
    (λ j hj. ap (λ (l : List Bool). get_or l (i + j) false) (bits-put_of s k w v e) ∙ put-before (bits s) (bits_of w v) k w (i + j) (rw length-bits (omega arith)) (omega arith)))

field-after : (s : List ℕ) (k w v i n : ℕ) → within (length s) k w ≡ true → k + w ≤ i → field_at (put_of s k w v) i n ≡ field_at s i n
field-after s k w v i n e h =
    let r = (within-true (length s) k w e).1 in
    ap value (same_bits (bits (put_of s k w v)) (bits s) i n (length-bits-put_of s k w v)
    (λ j hj. let p : i + j ≡ k + w + (i + j - (k + w)) = omega arith in
    ap (λ (l : List Bool). get_or l (i + j) false) (bits-put_of s k w v e)
    ∙ ap (λ (x : ℕ). get_or (put_bits s k w v) x false) p
    ∙ put-after (bits s) (bits_of w v) k w (i + j - (k + w)) (rw length-bits r) (length-bits_of w v)
    ∙ ap (λ (x : ℕ). get_or (bits s) x false) (sym p)))

apart : (s : List ℕ) (k w v i n : ℕ) → (i + n ≤ k) ⊎ (k + w ≤ i) → (t : Bool) → within (length s) k w ≡ t → field_at (put_of s k w v) i n ≡ field_at s i n
apart s k w v i n (inl h) true e = field-before s k w v i n e h
apart s k w v i n (inr h) true e = field-after s k w v i n e h
apart s k w v i n h false e = ap (λ (t : Bool). field_at (cond t (bytes (length s) (put_bits s k w v)) s) i n) e

pub get_of-put_of-apart : (s : List ℕ) (k w v i n : ℕ) → (i + n ≤ k) ⊎ (k + w ≤ i) → get_of (put_of s k w v) i n ≡ get_of s i n
get_of-put_of-apart s k w v i n h =
    ap₂ (λ (m x : ℕ). cond (within m i n) x 0) (length-put_of s k w v) (apart s k w v i n h (within (length s) k w) refl)

-- ---- the part of a field that lies in one byte

pub take-drop-bits : (s : List ℕ) (q r n : ℕ) → q < length s → r + n ≤ 8 → take n (drop (8 * q + r) (bits s)) ≡ bits_of n (get_or s q 0 / 2 ^ (8 - r - n))
unfolding bits
take-drop-bits s q r n hq hr =
    let x : ℕ = get_or s q 0 in
    let after : List Bool = bits (drop (suc q) s) in
    let l : length (bits_of 8 x) ≡ 8 = length-bits_of 8 x in
    let ln : length (drop r (bits_of 8 x)) ≡ 8 - r = length-drop r (bits_of 8 x) ∙ ap (λ (k : ℕ). k - r) l in
    let from : drop (8 * q) (bits s) ≡ bits_of 8 x ++ after = bits-drop q s (omega arith) ∙ ap bits (drop-cons s q 0 hq) in
    ap (take n)
    (sym (drop-drop r (8 * q) (bits s)) ∙ ap (drop r) from ∙ drop-append-le r (bits_of 8 x) after (omega arith))
    ∙ take-append-le n (drop r (bits_of 8 x)) after (omega arith)
    ∙ take-drop-bits_of 8 x r n hr

pub field-part : (s : List ℕ) (q r n : ℕ) → q < length s → r + n ≤ 8 → field_at s (8 * q + r) n ≡ get_or s q 0 / 2 ^ (8 - r - n) % 2 ^ n
field-part s q r n hq hr = ap value (take-drop-bits s q r n hq hr) ∙ value-bits_of n (get_or s q 0 / 2 ^ (8 - r - n))

-- a field is its first i bits and then the n after them
pub field-add : (s : List ℕ) (k i n : ℕ) → k + i + n ≤ 8 * length s → field_at s k (i + n) ≡ field_at s k i * 2 ^ n + field_at s (k + i) n
field-add s k i n h =
    let l : List Bool = bits s in
    let e : length (take n (drop (k + i) l)) ≡ n = length-take-le n (drop (k + i) l) (rw length-drop (omega (arith, length-bits s))) in
    ap value (take-add i n (drop k l) ∙ ap (λ (d : List Bool). take i (drop k l) ++ take n d) (drop-drop i k l))
    ∙ value-append (take i (drop k l)) (take n (drop (k + i) l))
    ∙ ap (λ (m : ℕ). field_at s k i * 2 ^ m + field_at s (k + i) n) e

-- the n bits from bit a of a field on, which has t bits after them
pub bits-of-field : (s : List ℕ) (k a n t : ℕ) → k + (a + n + t) ≤ 8 * length s → take n (drop (k + a) (bits s)) ≡ bits_of n (field_at s k (a + n + t) / 2 ^ t)
bits-of-field s k a n t h =
    let l : List Bool = take n (drop (k + a) (bits s)) in
    let ln : length l ≡ n = length-take-le n (drop (k + a) (bits s)) (rw length-drop (omega (arith, length-bits s))) in
    let up : field_at s k (a + n + t) / 2 ^ t ≡ field_at s k a * 2 ^ n + field_at s (k + a) n =
    ap (◌/ 2 ^ t) (field-add s k (a + n) t (omega arith)) ∙ high (field_at s k (a + n)) t (value-take-lt t (drop (k + (a + n)) (bits s))) ∙ field-add s k a n (omega arith) in
    let cut : field_at s k (a + n + t) / 2 ^ t % 2 ^ n ≡ value l = ap (◌% 2 ^ n) up ∙ low (field_at s k a) n (value-take-lt n (drop (k + a) (bits s))) in
    value-inj l (bits_of n (field_at s k (a + n + t) / 2 ^ t)) (ln ∙ sym (length-bits_of n (field_at s k (a + n + t) / 2 ^ t)))
    (sym (value-bits_of n (field_at s k (a + n + t) / 2 ^ t) ∙ cut))

-- a byte after a field, moved on by m bits
pub field-byte : (s : List ℕ) (q j m b v acc : ℕ) → q + j < length s → b ≡ get_or s (q + j) 0 → b < 256 → acc ≡ field_at s (8 * q) (8 * j) * 2 ^ (8 + m) → v ≡ b * 2 ^ m
    → bit_or acc v ≡ field_at s (8 * q) (8 * j + 8) * 2 ^ m
field-byte s q j m b v acc h hb lb ha hv =
    let a : ℕ = field_at s (8 * q) (8 * j) in
    let one : field_at s (8 * q + 8 * j) 8 ≡ b =
    ap (λ k. field_at s k 8) (let e : 8 * q + 8 * j ≡ 8 * (q + j) + 0 = omega arith in e)
    ∙ field-part s (q + j) 0 8 h (omega arith)
    ∙ ap (λ x. x / 1 % 256) (sym hb)
    ∙ ap (◌% 256) (div-one b)
    ∙ mod-eq_of_lt lb in
    ap₂ bit_or ha hv
    ∙ or_shifted a (8 + m) (b * 2 ^ m) (shl_lt 8 m lb)
    ∙ ap (λ n. a * n + b * 2 ^ m) (pow-add 2 8 m)
    ∙ ap (◌+ b * 2 ^ m) (sym (mul_assoc a (2 ^ 8) (2 ^ m)))
    ∙ sym (add-mul (a * 2 ^ 8) b (2 ^ m))
    ∙ ap (◌* 2 ^ m) (sym (field-add s (8 * q) (8 * j) 8 (omega arith) ∙ ap (a * 2 ^ 8 +◌) one))

-- ---- eight bytes as a machine word

module _ (s : List ℕ) (q : ℕ) (room : q + 8 ≤ length s) (fit : Bytes s) where
  -- one byte more, moved on by m bits
  next-byte : (j m b acc : ℕ) → j < 8 → 8 + m ≤ 64 → b ≡ get_or s (q + j) 0 → acc ≡ field_at s (8 * q) (8 * j) * 2 ^ (8 + m)
      → bit_or acc (b * 2 ^ m % 2 ^ 64) ≡ field_at s (8 * q) (8 * j + 8) * 2 ^ m
  next-byte j m b acc h hm eb ea =
      let lb : b < 256 = omega (arith, fit (q + j)) in
      field-byte s q j m b (b * 2 ^ m % 2 ^ 64) acc (omega arith) eb lb ea (shl_exact 8 m 64 lb hm)

  -- all eight, in the shape that the code has
  pub eight-bytes : (b₀ b₁ b₂ b₃ b₄ b₅ b₆ b₇ : ℕ) → b₀ ≡ get_or s q 0 → b₁ ≡ get_or s (q + 1) 0 → b₂ ≡ get_or s (q + 2) 0 → b₃ ≡ get_or s (q + 3) 0
      → b₄ ≡ get_or s (q + 4) 0 → b₅ ≡ get_or s (q + 5) 0 → b₆ ≡ get_or s (q + 6) 0 → b₇ ≡ get_or s (q + 7) 0
      → bit_or (bit_or (bit_or (bit_or (bit_or (bit_or (bit_or (b₀ * 2 ^ 56 % 2 ^ 64) (b₁ * 2 ^ 48 % 2 ^ 64)) (b₂ * 2 ^ 40 % 2 ^ 64)) (b₃ * 2 ^ 32 % 2 ^ 64)) (b₄ * 2 ^ 24 % 2 ^ 64)) (b₅ * 2 ^ 16 % 2 ^ 64)) (b₆ * 2 ^ 8 % 2 ^ 64)) b₇
      ≡ field_at s (8 * q) 64
  unfolding value
  eight-bytes b₀ b₁ b₂ b₃ b₄ b₅ b₆ b₇ e₀ e₁ e₂ e₃ e₄ e₅ e₆ e₇ =
      let a₁ = sym (or_zero_l (b₀ * 2 ^ 56 % 2 ^ 64)) ∙ next-byte 0 56 b₀ 0 (omega arith) (omega arith) (e₀ ∙ ap (λ n. get_or s n 0) (let e : q ≡ q + 0 = omega arith in e)) refl in
      let a₂ = next-byte 1 48 b₁ _ (omega arith) (omega arith) e₁ a₁ in
      let a₃ = next-byte 2 40 b₂ _ (omega arith) (omega arith) e₂ a₂ in
      let a₄ = next-byte 3 32 b₃ _ (omega arith) (omega arith) e₃ a₃ in
      let a₅ = next-byte 4 24 b₄ _ (omega arith) (omega arith) e₄ a₄ in
      let a₆ = next-byte 5 16 b₅ _ (omega arith) (omega arith) e₅ a₅ in
      let a₇ = next-byte 6 8 b₆ _ (omega arith) (omega arith) e₆ a₆ in
      field-byte s q 7 0 b₇ b₇ _ (omega arith) e₇ (omega (arith, fit (q + 7))) a₇ (omega arith) ∙ omega arith

-- ---- fields replaced

-- what stands between p and s replaced
paste-between : (p m s x : List Bool) (k n : ℕ) → length p ≡ k → length m ≡ n → length x ≡ n → paste (p ++ (m ++ s)) k x n ≡ p ++ (x ++ s)
paste-between p m s x k n lp lm lx =
    let d : drop (k + n) (p ++ (m ++ s)) ≡ s =
    ap (drop (k + n)) (sym (append_assoc p m s)) ∙ drop_at (p ++ m) s (k + n) (length-append p m ∙ omega arith) in
    rw (take_at p (m ++ s) k lp, take_all n x (omega arith), d) (append_assoc p x s)

-- a byte x whose n bits from bit r on, o as a number, become the low bits of v, e as a number; m is the weight of the last of them
pub record Replaced (x r n v o e m : ℕ) : Type 0 where
  pub below : o * m ≤ x
  pub small : x - o * m + e * m < 256
  pub old : bits_of 8 x ≡ bits_of r (x / 2 ^ (8 - r)) ++ (bits_of n (x / 2 ^ (8 - r - n)) ++ bits_of (8 - r - n) x)
  pub new : bits_of 8 (x - o * m + e * m) ≡ bits_of r (x / 2 ^ (8 - r)) ++ (bits_of n v ++ bits_of (8 - r - n) x)

pub replaced : (x r n v o e m : ℕ) → x < 256 → r + n ≤ 8 → o ≡ x / 2 ^ (8 - r - n) % 2 ^ n → e ≡ v % 2 ^ n → m ≡ 2 ^ (8 - r - n) → Replaced x r n v o e m
replaced x r n v o e m hx hr ho he hm =
    let t : ℕ = 8 - r - n in
    let a : List Bool = bits_of r (x / 2 ^ (8 - r)) in
    let b : List Bool = bits_of n (x / 2 ^ t) in
    let c : List Bool = bits_of t x in
    let er : 8 ≡ r + (8 - r) = omega arith in
    let en : 8 - r ≡ n + t = omega arith in
    let parts : bits_of 8 x ≡ a ++ (b ++ c) =
    ap (λ (k : ℕ). bits_of k x) er ∙ bits_of-add r (8 - r) x ∙ ap (λ (l : List Bool). a ++ l) (ap (λ (k : ℕ). bits_of k x) en ∙ bits_of-add n t x) in
    let tail : (u : ℕ) → length (bits_of n u ++ c) ≡ 8 - r = λ u.
    length-append (bits_of n u) c ∙ ap₂ (λ (i j : ℕ). i + j) (length-bits_of n u) (length-bits_of t x) ∙ sym en in
    let whole : (u d : ℕ) → d ≡ u % 2 ^ n → value (a ++ (bits_of n u ++ c)) ≡ value a * 2 ^ (8 - r) + (d * m + value c) = λ u d hd.
    value-append a (bits_of n u ++ c)
    ∙ ap₂ (λ (i j : ℕ). value a * 2 ^ i + j) (tail u)
    (value-append (bits_of n u) c ∙ ap₂ (λ (i j : ℕ). i * j + value c) (value-bits_of n u ∙ sym hd) (ap (λ (k : ℕ). 2 ^ k) (length-bits_of t x) ∙ sym hm)) in
    let was : x ≡ value a * 2 ^ (8 - r) + (o * m + value c) = sym (value-bits_of-fit 8 x hx) ∙ ap value parts ∙ whole (x / 2 ^ t) o ho in
    let z : List Bool = a ++ (bits_of n v ++ c) in
    let is : x - o * m + e * m ≡ value z = omega (arith, was, whole v e he) in
    let len : length z ≡ 8 = length-append a (bits_of n v ++ c) ∙ ap₂ (λ (i j : ℕ). i + j) (length-bits_of r (x / 2 ^ (8 - r))) (tail v) ∙ sym er in
    let lt : value z < 2 ^ 8 = subst (λ (k : ℕ). value z < 2 ^ k) len (value-lt z) in
    record { below = omega arith; small = omega arith; old = parts; new = ap₂ (λ (k u : ℕ). bits_of k u) (sym len) is ∙ bits_of-value z }

-- and so the row of bytes
pub bits-replaced : (s : List ℕ) (q r n v o e m : ℕ) → q < length s → r + n ≤ 8 → Replaced (get_or s q 0) r n v o e m
    → bits (set s q (get_or s q 0 - o * m + e * m)) ≡ put_bits s (8 * q + r) n v
bits-replaced s q r n v o e m hq hr h =
    let x : ℕ = get_or s q 0 in
    let a : List Bool = bits_of r (x / 2 ^ (8 - r)) in
    let b : List Bool = bits_of n (x / 2 ^ (8 - r - n)) in
    let c : List Bool = bits_of (8 - r - n) x in
    let p : List Bool = bits (take q s) in
    let z : List Bool = bits (drop (suc q) s) in
    let shape : (u : List Bool) → p ++ ((a ++ (u ++ c)) ++ z) ≡ (p ++ a) ++ (u ++ (c ++ z)) = λ u. simp append_assoc in
    let lp : length (p ++ a) ≡ 8 * q + r =
    length-append p a ∙ ap₂ (λ (i j : ℕ). i + j) (length-bits (take q s) ∙ ap (λ (k : ℕ). 8 * k) (length-take-le q s (omega arith))) (length-bits_of r (x / 2 ^ (8 - r))) in
    bits-set s q (x - o * m + e * m) hq
    ∙ ap (λ (u : List Bool). p ++ (u ++ z)) h.new ∙ shape (bits_of n v)
    ∙ sym (ap (λ (l : List Bool). paste l (8 * q + r) (bits_of n v) n) (bits-split s q hq ∙ ap (λ (u : List Bool). p ++ (u ++ z)) h.old ∙ shape b)
    ∙ paste-between (p ++ a) b (c ++ z) (bits_of n v) (8 * q + r) n lp (length-bits_of n (x / 2 ^ (8 - r - n))) (length-bits_of n v))

-- i bits of the field are put, then the n after them
pub paste-add : (l x y : List Bool) (k i n : ℕ) → k + i + n ≤ length l → i + n ≤ length x → take n (drop i x) ≡ y → length y ≡ n
    → paste (paste l k x i) (k + i) y n ≡ paste l k x (i + n)
paste-add l x y k i n hl hx e ly =
    let m : List Bool = paste l k x i in
    let e3 : k + i + n ≡ k + (i + n) = omega arith in
    let ft : take (k + i) m ≡ take k l ++ take i x = take-paste l k x i (omega arith) (omega arith) in
    let bk : drop (k + i + n) m ≡ drop (k + (i + n)) l =
    sym (drop-drop n (k + i) m) ∙ ap (drop n) (drop-paste l k x i (omega arith) (omega arith)) ∙ drop-drop n (k + i) l ∙ ap (λ (j : ℕ). drop j l) e3 in
    ap₂ (λ (u v : List Bool). (u ++ take n y) ++ v) ft bk
    ∙ ap (λ (u : List Bool). u ++ drop (k + (i + n)) l)
    (append_assoc (take k l) (take i x) (take n y) ∙ ap (λ (u : List Bool). take k l ++ u) (ap (λ (u : List Bool). take i x ++ u) (take_all n y (omega arith) ∙ sym e) ∙ sym (take-add i n x)))

pub put_bits-add : (l : List Bool) (k w v i n : ℕ) → k + w ≤ length l → i + n ≤ w
    → paste (paste l k (bits_of w v) i) (k + i) (bits_of n (v / 2 ^ (w - i - n))) n ≡ paste l k (bits_of w v) (i + n)
put_bits-add l k w v i n hl hi =
    paste-add l (bits_of w v) (bits_of n (v / 2 ^ (w - i - n))) k i n (omega arith) (rw length-bits_of hi)
    (take-drop-bits_of w v i n hi) (length-bits_of n (v / 2 ^ (w - i - n)))

-- ---- a field out of eight bytes

pub field-of-eight : (s : List ℕ) (at w n : ℕ) → 0 < w → at % 8 + w < 64 → at / 8 + 8 ≤ length s → n ≡ field_at s (8 * (at / 8)) 64
    → n / 2 ^ (64 - (at % 8 + w)) % 2 ^ w ≡ field_at s at w
field-of-eight s at w n h e r en =
    let q = at / 8 in
    let o = at % 8 in
    let t = 64 - (o + w) in
    let all : ◌≡◌ {A = ℕ} 64 (o + w + t) = omega arith in
    let place : 8 * q + o ≡ at = omega arith in
    ap (λ (m : ℕ). m / 2 ^ t % 2 ^ w) (en ∙ ap (field_at s (8 * q)) all)
    ∙ sym (ap value (bits-of-field s (8 * q) o w t (omega arith)) ∙ value-bits_of w (field_at s (8 * q) (o + w + t) / 2 ^ t))
    ∙ ap (λ (m : ℕ). field_at s m w) place

-- of no width
pub field-none : (s : List ℕ) (at w : ℕ) → w ≡ 0 → 0 ≡ field_at s at w
unfolding value
field-none s at w e = ap (λ (n : ℕ). field_at s at n) (sym e)
