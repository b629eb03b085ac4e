-- Laws of the CRCs that other crates cite: what a CRC is (`crc10-divides`, `crc32-divides`), how large, over a longer row, over a sum,
-- and that a row followed by 32 bits has the CRC-32 zero exactly where they are its own CRC-32. Assumes nothing.
use mathlib.Core.Path.{◌≡◌, refl, sym, ap, ap₂, subst, ◌∙◌}
use mathlib.Core.Bool.{Bool, true, false}
use mathlib.Core.List.{List, [], ◌++◌}
use Prim.Native.Nat.{ℕ, suc, ◌+◌, ◌*◌, ◌^◌, ◌<◌}
use native.Mathlib.Omega.{arith}
use lib.Dec.{lit<}
use lib.ListN.{length, get_or, length-append, length-replicate}
use Rattle.gf2.specs.Polynomial.{zeros, add, poly, mul, remainder, quotient, check_bits}
use Rattle.gf2.specs.Register.{feed}
use Rattle.gf2.proofs.Sum.{length-add, add-zeros, add_assoc, add-append}
use Rattle.gf2.proofs.Division.{divides, length-remainder, remainder-add}
use Rattle.gf2.proofs.Register.{feed-append, feed-remainder, feed-own, feed-only}
use Rattle.bits.specs.Bits.{digit, value, odd, bits_of, bits, bytes, Bytes}
use Rattle.bits.proofs.Bits.{length-bits_of, length-bits, value-lt, value-inj, value-zeros, bits_of-value, bits-append, bits-bytes, bytes-bits}
use Rattle.crc.specs.Crc.{crc, g10, g32, ones32, crc10, crc32, crc10_of, crc32_of}

-- ---- any CRC

module _ (g start : List Bool) where
  -- the dividend: m x^n with `start` added at the top
  pub length-dividend : (m : List Bool) → length (add start (m ++ zeros (length g))) ≡ length m + length g
  length-dividend m = length-add start (m ++ zeros (length g)) ∙ length-append m (zeros (length g)) ∙ ap (length m +◌) (length-replicate (length g) false)

  pub length-crc : (m : List Bool) → length (crc g start m) ≡ length g
  unfolding crc
  length-crc m = length-remainder g (length m) (add start (m ++ zeros (length g))) (length-dividend m)

  -- its bits are those of its number
  pub crc-bits : (m : List Bool) (n : ℕ) → length g ≡ n → bits_of n (value (crc g start m)) ≡ crc g start m
  crc-bits m n lg = ap (λ k. bits_of k (value (crc g start m))) (sym (length-crc m ∙ lg)) ∙ bits_of-value (crc g start m)

  -- the dividend is a multiple of x^n + g, and the CRC
  pub crc-divides : (m : List Bool) → let d = add start (m ++ zeros (length g)) in d ≡ add (mul g (quotient g (length m) d)) (zeros (length m) ++ crc g start m)
  unfolding crc
  crc-divides m = divides g (length m) (add start (m ++ zeros (length g))) (length-dividend m)

  module _ (ls : length start ≡ length g) (pos : 0 < length g) where
    -- the register that starts at `start` comes to it
    pub crc-feed : (m : List Bool) → crc g start m ≡ feed g start m
    unfolding crc
    crc-feed m = sym (feed-remainder g start m ls pos)

    -- over a longer row the register goes on
    pub crc-append : (m x : List Bool) → crc g start (m ++ x) ≡ feed g (crc g start m) x
    crc-append m x = crc-feed (m ++ x) ∙ feed-append g start m x ∙ ap (λ r. feed g r x) (sym (crc-feed m))

    -- the same of the register as a number
    pub crc-turn : (m x : List Bool) (n r : ℕ) → length g ≡ n → r ≡ value (crc g start m) → value (feed g (bits_of n r) x) ≡ value (crc g start (m ++ x))
    crc-turn m x n r lg e = ap value (ap (λ y. feed g y x) (ap (bits_of n) e ∙ crc-bits m n lg) ∙ sym (crc-append m x))

    -- the CRC of a sum of two rows: what is added to a row adds its check bits
    pub crc-add : (u w : List Bool) → length u ≡ length w → crc g start (add u w) ≡ add (crc g start u) (check_bits g w)
    unfolding crc check_bits
    crc-add u w l =
        let z = zeros (length g) in
        let lw : length (add u w) ≡ length w = length-add u w in
        let lz : length z ≡ length g = length-replicate (length g) false in
        let lwz : length (w ++ z) ≡ length w + length g = length-append w z ∙ ap (length w +◌) lz in
        let luz : length (u ++ z) ≡ length w + length g = length-append u z ∙ ap₂ ◌+◌ l lz in
        let d : add start (add u w ++ z) ≡ add (add start (u ++ z)) (w ++ z) =
        ap (add start) (sym (add-append u z w z l ∙ ap (add u w ++◌) (add-zeros (length g) z)))
        ∙ sym (add_assoc start (u ++ z) (w ++ z) (omega arith)) in
        ap₂ (remainder g) lw d
        ∙ remainder-add g (length w) (add start (u ++ z)) (w ++ z) (length-add start (u ++ z) ∙ luz) lwz
        ∙ ap (λ n. add (remainder g n (add start (u ++ z))) (remainder g (length w) (w ++ z))) (sym l)

    -- a row followed by its own CRC has the CRC zero, and followed by no other bits
    pub crc-own : (m : List Bool) → crc g start (m ++ crc g start m) ≡ zeros (length g)
    crc-own m = crc-append m (crc g start m) ∙ feed-own g (crc g start m) ∙ ap zeros (length-crc m)

    pub crc-only : (m x : List Bool) (n : ℕ) → length g ≡ suc n → length x ≡ suc n → get_or g n false ≡ true → crc g start (m ++ x) ≡ zeros (suc n) → x ≡ crc g start m
    crc-only m x n lg lx o e = sym (feed-only g (crc g start m) x n lg (length-crc m ∙ lg) lx o (sym (crc-append m x) ∙ e))

-- ---- CRC-10

pub length-g10 : length g10 ≡ 10
unfolding poly
length-g10 = refl

length-zeros10 : length (zeros 10) ≡ length g10
unfolding poly
length-zeros10 = refl

some10 : 0 < length g10
unfolding poly
some10 = lit< tt

pub length-crc10 : (m : List Bool) → length (crc10 m) ≡ 10
unfolding crc10
length-crc10 m = length-crc g10 (zeros 10) m ∙ length-g10

pub crc10-lt : (m : List Bool) → crc10_of m < 1024
crc10-lt m = rw length-crc10 at (value-lt (crc10 m))

pub crc10-bits : (m : List Bool) → bits_of 10 (crc10_of m) ≡ crc10 m
unfolding crc10
crc10-bits m = crc-bits g10 (zeros 10) m 10 length-g10

-- the check bits of the divisor x^10 + g10
pub crc10-check : (m : List Bool) → crc10 m ≡ check_bits g10 m
unfolding crc10 crc check_bits
crc10-check m = ap (remainder g10 (length m)) (add-zeros 10 (m ++ zeros (length g10)))

-- m x^10 is a multiple of x^10 + g10, and the CRC
pub crc10-divides : (m : List Bool) → m ++ zeros 10 ≡ add (mul g10 (quotient g10 (length m) (m ++ zeros 10))) (zeros (length m) ++ crc10 m)
unfolding check_bits poly
crc10-divides m =
    divides g10 (length m) (m ++ zeros 10) (length-append m (zeros 10))
    ∙ ap (λ r. add (mul g10 (quotient g10 (length m) (m ++ zeros 10))) (zeros (length m) ++ r)) (sym (crc10-check m))

pub crc10-none : crc10_of [] ≡ 0
unfolding crc10 crc remainder add poly value digit
crc10-none = refl

pub crc10-turn : (m x : List Bool) (r : ℕ) → r ≡ crc10_of m → value (feed g10 (bits_of 10 r) x) ≡ crc10_of (m ++ x)
unfolding crc10
crc10-turn m x r e = crc-turn g10 (zeros 10) length-zeros10 some10 m x 10 r length-g10 e

pub crc10-add : (u w : List Bool) → length u ≡ length w → crc10 (add u w) ≡ add (crc10 u) (crc10 w)
unfolding crc10
crc10-add u w l = crc-add g10 (zeros 10) length-zeros10 some10 u w l ∙ ap (add (crc10 u)) (sym (crc10-check w))

-- ---- CRC-32

pub length-g32 : length g32 ≡ 32
length-g32 = length-bits_of 32 _

length-ones32 : length ones32 ≡ length g32
length-ones32 = length-bits_of 32 0xFFFFFFFF ∙ sym length-g32

pub some32 : 0 < length g32
some32 = rw length-g32 (lit< tt)

last32 : get_or g32 31 false ≡ true
unfolding bits_of odd
last32 = refl

pub length-crc32 : (m : List Bool) → length (crc32 m) ≡ 32
unfolding crc32
length-crc32 m = length-crc g32 ones32 m ∙ length-g32

pub crc32-lt : (m : List Bool) → crc32_of m < 2 ^ 32
crc32-lt m = rw length-crc32 at (value-lt (crc32 m))

pub crc32-bits : (m : List Bool) → bits_of 32 (crc32_of m) ≡ crc32 m
unfolding crc32
crc32-bits m = crc-bits g32 ones32 m 32 length-g32

-- m x^32 with its first 32 coefficients inverted is a multiple of x^32 + g32, and the CRC
pub crc32-divides : (m : List Bool) → let d = add ones32 (m ++ zeros 32) in d ≡ add (mul g32 (quotient g32 (length m) d)) (zeros (length m) ++ crc32 m)
unfolding crc32
crc32-divides m =
    subst
    (λ n. let d = add ones32 (m ++ zeros n) in d ≡ add (mul g32 (quotient g32 (length m) d)) (zeros (length m) ++ crc g32 ones32 m))
    length-g32
    (crc-divides g32 ones32 m)

pub crc32-none : crc32_of [] ≡ 0xFFFFFFFF
unfolding crc32 crc remainder add bits_of odd value digit
crc32-none = refl

pub crc32-turn : (m x : List Bool) (r : ℕ) → r ≡ crc32_of m → value (feed g32 (bits_of 32 r) x) ≡ crc32_of (m ++ x)
unfolding crc32
crc32-turn m x r e = crc-turn g32 ones32 length-ones32 some32 m x 32 r length-g32 e

-- ---- a row that ends in its own CRC-32, and none else, comes out zero

pub crc32-own : (m : List Bool) → crc32_of (m ++ crc32 m) ≡ 0
unfolding crc32
crc32-own m = ap value (crc-own g32 ones32 length-ones32 some32 m) ∙ value-zeros (length g32)

-- the same with the 32 bits written as a number
pub crc32-own-number : (m : List Bool) → crc32_of (m ++ bits_of 32 (crc32_of m)) ≡ 0
crc32-own-number m = ap (λ x. crc32_of (m ++ x)) (crc32-bits m) ∙ crc32-own m

pub crc32-only : (m x : List Bool) → length x ≡ 32 → crc32_of (m ++ x) ≡ 0 → x ≡ crc32 m
unfolding crc32
crc32-only m x l e =
    let r = crc g32 ones32 (m ++ x) in
    let z : r ≡ zeros 32 = value-inj r (zeros 32) (length-crc g32 ones32 (m ++ x) ∙ length-g32) (e ∙ sym (value-zeros 32)) in
    crc-only g32 ones32 length-ones32 some32 m x 31 length-g32 l last32 z

-- the same by the number that the last 32 bits stand for
pub crc32-zero : (m x : List Bool) → length x ≡ 32 → value x ≡ crc32_of m → crc32_of (m ++ x) ≡ 0
crc32-zero m x l e = ap (λ y. crc32_of (m ++ y)) (value-inj x (crc32 m) (l ∙ sym (length-crc32 m)) e) ∙ crc32-own m

pub crc32-value : (m x : List Bool) → length x ≡ 32 → crc32_of (m ++ x) ≡ 0 → value x ≡ crc32_of m
crc32-value m x l e = ap value (crc32-only m x l e)

-- the same of bytes: four more, which hold the CRC of those before them, highest byte first
pub crc32-own-bytes : (s : List ℕ) → crc32_of (bits (s ++ bytes 4 (crc32 (bits s)))) ≡ 0
crc32-own-bytes s =
    ap crc32_of (bits-append s (bytes 4 (crc32 (bits s))) ∙ ap (bits s ++◌) (bits-bytes 4 (crc32 (bits s)) (length-crc32 (bits s))))
    ∙ crc32-own (bits s)

pub crc32-only-bytes : (s x : List ℕ) → length x ≡ 4 → Bytes x → crc32_of (bits (s ++ x)) ≡ 0 → x ≡ bytes 4 (crc32 (bits s))
crc32-only-bytes s x l h e =
    let b : bits x ≡ crc32 (bits s) = crc32-only (bits s) (bits x) (length-bits x ∙ ap (8 *◌) l) (ap crc32_of (sym (bits-append s x)) ∙ e) in
    sym (bytes-bits x h) ∙ ap₂ bytes l b
