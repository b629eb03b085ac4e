-- Laws of numbers as text. Assumes nothing.
use mathlib.Core.Path.{◌≡◌, refl, sym, ap, ◌∙◌}
use mathlib.Core.Bool.{Bool, true, false}
use mathlib.Core.List.{[], ◌∷◌, ◌++◌}
use Prim.Native.Nat.{ℕ, zero, suc, ◌+◌, ◌*◌, ◌/◌, ◌%◌, ◌^◌, ◌<◌, ◌≤◌}
use native.Mathlib.Nat.{pow-suc, one-le-pow}
use native.Mathlib.Omega.{arith}
use lib.Dec.{ltb}
use lib.ListN.{length, length-append}
use borrow.Author.Tests.{lt-ltb, le-ltb, ne_eqb, ltb-true, ltb-false}
use Rattle.decimals.specs.Decimal.{digits, decimal, leading}

-- ---- one digit more

pub digits-one : (k n : ℕ) → n < 10 → digits (suc k) n ≡ (48 + n) ∷ []
unfolding digits
digits-one k n h = rw (lt-ltb n 10 h)

pub digits_more : (k n : ℕ) → 10 ≤ n → digits (suc k) n ≡ digits k (n / 10) ++ (48 + n % 10) ∷ []
unfolding digits
digits_more k n h = rw (le-ltb n 10 h)

-- the largest number that k + 1 digits hold is 10 times that of k, and 9
unfoldable pub limit : ℕ → ℕ
limit zero = 9
limit (suc k) = 10 * limit k + 9

-- more places than are enough change nothing
digits-enough : (k n : ℕ) → n ≤ limit k → digits (suc k) n ≡ digits (suc (suc k)) n
unfolding limit
digits-enough zero n h = digits-one 0 n (omega arith) ∙ sym (digits-one 1 n (omega arith))
digits-enough (suc k) n h = go (digits-enough k (n / 10) (omega arith)) (ltb n 10) refl
  where
    go : digits (suc k) (n / 10) ≡ digits (suc (suc k)) (n / 10) → (t : Bool) → ltb n 10 ≡ t → digits (suc (suc k)) n ≡ digits (suc (suc (suc k))) n
    go r true e = let l = ltb-true n 10 e in digits-one (suc k) n l ∙ sym (digits-one (suc (suc k)) n l)
    go r false e =
        let l = ltb-false n 10 e in
        digits_more (suc k) n l ∙ ap (◌++ (48 + n % 10) ∷ []) r ∙ sym (digits_more (suc (suc k)) n l)

-- ---- the digits in front of the last

pub leading-none : leading 0 ≡ []
unfolding leading
leading-none = refl

pub leading-some : (n : ℕ) → (n ≡ 0 → ⊥) → leading n ≡ decimal n
unfolding leading
leading-some n h = rw (ne_eqb n 0 h)

-- the last digit, and those in front of it
pub decimal-last : (n : ℕ) → n < 18446744073709551616 → decimal n ≡ leading (n / 10) ++ (48 + n % 10) ∷ []
unfolding limit
decimal-last n h = go (ltb n 10) refl
  where
    go : (t : Bool) → ltb n 10 ≡ t → decimal n ≡ leading (n / 10) ++ (48 + n % 10) ∷ []
    go true e =
        let l = ltb-true n 10 e in
        let q : n / 10 ≡ 0 = omega arith in
        let r : n % 10 ≡ n = omega arith in
        digits-one 19 n l ∙ rw (q, r, leading-none)
    go false e =
        let l = ltb-false n 10 e in
        digits_more 19 n l
        ∙ ap (◌++ (48 + n % 10) ∷ []) (digits-enough 18 (n / 10) (omega arith) ∙ sym (leading-some (n / 10) (λ z. omega arith)))

-- ---- lengths

length-limit : (k j n : ℕ) → n ≤ limit k → length (digits j n) ≤ suc k
unfolding limit digits
length-limit k zero n h = omega arith
length-limit zero (suc j) n h = rw (digits-one j n (omega arith)) (omega arith)
length-limit (suc k) (suc j) n h = go (length-limit k j (n / 10) (omega arith)) (ltb n 10) refl
  where
    go : length (digits j (n / 10)) ≤ suc k → (t : Bool) → ltb n 10 ≡ t → length (digits (suc j) n) ≤ suc (suc k)
    go r true e = rw (digits-one j n (ltb-true n 10 e)) (omega arith)
    go r false e = rw (digits_more j n (ltb-false n 10 e), length-append) (omega arith)

-- in k + 1 digits
pub length_most : (k n : ℕ) → n ≤ limit k → length (decimal n) ≤ suc k
length_most k n h = length-limit k 20 n h

pub length-word : (n : ℕ) → n < 18446744073709551616 → length (decimal n) ≤ 20
unfolding limit
length-word n h = length_most 19 n (omega arith)

pub length-byte : (n : ℕ) → n < 256 → length (decimal n) ≤ 3
unfolding limit
length-byte n h = length_most 2 n (omega arith)

pub length_last : (n : ℕ) → n < 18446744073709551616 → length (decimal n) ≡ length (leading (n / 10)) + 1
length_last n h = rw (decimal-last n h, length-append)

-- 0 has one digit
pub length-none : {n : ℕ} → n ≡ 0 → 1 ≡ length (decimal n)
length-none {n} e = rw (digits-one 19 n (omega arith))

-- a number that reaches a power of ten has one digit more than the power says
pub length-power : (k n : ℕ) → n < 18446744073709551616 → 10 ^ k ≤ n → n < 10 * 10 ^ k → k + 1 ≡ length (decimal n)
length-power zero n h l m = rw (digits-one 19 n (omega arith))
length-power (suc k) n h l m =
    let z : n / 10 ≡ 0 → ⊥ = λ e. omega (arith, pow-suc 10 k, one-le-pow k 10 (omega arith)) in
    let r = length-power k (n / 10) (omega arith) (omega (arith, pow-suc 10 k)) (omega (arith, pow-suc 10 k)) in
    rw (length_last n h, leading-some (n / 10) z) (omega (arith, r))

-- the same of what a program counts: that its number m is n itself, and its count one more than the power, are premises
pub count-power : (k m n count : ℕ) → n < 18446744073709551616 → 10 ^ k ≤ m → m < 10 * 10 ^ k → m ≡ n → count ≡ k + 1 → count ≡ length (decimal n)
count-power k m n count h l u whole more = more ∙ length-power k m (omega (arith, whole, h)) l u ∙ ap (λ (x : ℕ). length (decimal x)) whole
