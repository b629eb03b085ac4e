-- Tables of remainders, for any generator: a table is the sums of its entries at the powers of 2, which antt computes. Assumes nothing.
use mathlib.Core.Path.{◌≡◌, refl, sym, ap, ap₂, ◌∙◌}
use mathlib.Core.Bool.{Bool, true, false}
use mathlib.Core.List.{List, [], ◌∷◌, ◌++◌, map}
use Prim.Native.Nat.{ℕ, zero, suc, ◌+◌, ◌-◌, ◌*◌, ◌^◌, ◌<◌}
use native.Mathlib.Nat.{pow-suc}
use native.Mathlib.Omega.{arith}
use lib.Bits.{bit_xor, xor_self, xor_shifted}
use lib.Dec.{ltb}
use borrow.Author.Tests.{ltb-true, ltb-false}
use lib.ListN.{length, get_or, length-append, length-map, get_or-append}
use lib.Seq.{get_or-append-add}
use Rattle.gf2.specs.Polynomial.{zeros, add, check_bits}
use Rattle.gf2.proofs.Sum.{add-zeros, add-append}
use Rattle.gf2.proofs.Division.{length-check, check-add}
use Rattle.bits.specs.Bits.{value, bits_of}
use Rattle.bits.proofs.Bits.{length-bits_of, value-lt}
use Rattle.crc.specs.Remainders.{remainder_of}
use Rattle.lanes.proofs.Number.{value-add, add-bits_of}

-- ---- laws of a remainder

pub remainder-lt : (g : List Bool) (n b : ℕ) → remainder_of g n b < 2 ^ length g
unfolding remainder_of
remainder-lt g n b = rw length-check at (value-lt (check_bits g (bits_of 8 b ++ zeros (8 * n))))

pub remainder-xor : (g : List Bool) (n x y : ℕ) → remainder_of g n (bit_xor x y) ≡ bit_xor (remainder_of g n x) (remainder_of g n y)
unfolding remainder_of
remainder-xor g n x y =
    let z = zeros (8 * n) in
    let u = bits_of 8 x in
    let w = bits_of 8 y in
    let l : length u ≡ length w = length-bits_of 8 x ∙ sym (length-bits_of 8 y) in
    let lz : length (u ++ z) ≡ length (w ++ z) = length-append u z ∙ ap (◌+ length z) l ∙ sym (length-append w z) in
    let parts : bits_of 8 (bit_xor x y) ++ z ≡ add (u ++ z) (w ++ z) =
    ap (◌++ z) (sym (add-bits_of 8 x y)) ∙ sym (add-append u z w z l ∙ ap (add u w ++◌) (add-zeros (8 * n) z)) in
    ap value (ap (check_bits g) parts ∙ check-add g (u ++ z) (w ++ z) lz)
    ∙ value-add (check_bits g (u ++ z)) (check_bits g (w ++ z)) (length-check g (u ++ z) ∙ sym (length-check g (w ++ z)))

pub remainder-zero : (g : List Bool) (n : ℕ) → remainder_of g n 0 ≡ 0
remainder-zero g n = remainder-xor g n 0 0 ∙ xor_self (remainder_of g n 0)

-- ---- the sums of a row of numbers, each of them taken or not; the last one is that of the lowest bit

unfoldable pub sums : List ℕ → List ℕ
sums [] = 0 ∷ []
sums (c ∷ cs) = sums cs ++ map (bit_xor c) (sums cs)

-- f at the powers of 2 below 2 ^ k, the greatest first
unfoldable pub powers : (ℕ → ℕ) → ℕ → List ℕ
powers f zero = []
powers f (suc k) = f (2 ^ k) ∷ powers f k

module _ (f : ℕ → ℕ) where
  pub length-sums : (k : ℕ) → length (sums (powers f k)) ≡ 2 ^ k
  unfolding sums powers
  length-sums zero = refl
  length-sums (suc k) =
      let t = sums (powers f k) in
      length-append t (map (bit_xor (f (2 ^ k))) t)
      ∙ ap (length t +◌) (length-map t (bit_xor (f (2 ^ k))))
      ∙ ap₂ ◌+◌ (length-sums k) (length-sums k)
      ∙ sym (pow-suc 2 k ∙ omega arith)

  get_or-map : (c : ℕ) (l : List ℕ) (i : ℕ) → i < length l → get_or (map (bit_xor c) l) i 0 ≡ bit_xor c (get_or l i 0)
  get_or-map c [] i h = absurd (omega arith)
  get_or-map c (x ∷ l) zero h = refl
  get_or-map c (x ∷ l) (suc i) h = get_or-map c l i (omega arith)

  module _ (none : f 0 ≡ 0) (both : (x y : ℕ) → f (bit_xor x y) ≡ bit_xor (f x) (f y)) where
    -- with a bit more
    f-high : (k b : ℕ) → b < 2 ^ k → f (2 ^ k + b) ≡ bit_xor (f (2 ^ k)) (f b)
    f-high k b h = let e : 1 * 2 ^ k ≡ 2 ^ k = omega arith in ap f (sym (rw e at (xor_shifted 1 k b h))) ∙ both (2 ^ k) b

    pub get_or-sums : (k b : ℕ) → b < 2 ^ k → get_or (sums (powers f k)) b 0 ≡ f b
    unfolding sums powers
    get_or-sums zero b h = let e : b ≡ 0 = omega arith in ap (λ i. get_or (0 ∷ []) i 0) e ∙ sym (ap f e ∙ none)
    get_or-sums (suc k) b h = go (get_or-sums k) (ltb b (2 ^ k)) refl
      where
        t : List ℕ
        t = sums (powers f k)

        c : ℕ
        c = f (2 ^ k)

        go : ((i : ℕ) → i < 2 ^ k → get_or t i 0 ≡ f i) → (low : Bool) → ltb b (2 ^ k) ≡ low → get_or (t ++ map (bit_xor c) t) b 0 ≡ f b
        go ih true e =
            let i : b < 2 ^ k = ltb-true b (2 ^ k) e in
            get_or-append t (map (bit_xor c) t) 0 b (rw (length-sums k) i) ∙ ih b i
        go ih false e =
            let i = b - 2 ^ k in
            let s : b ≡ 2 ^ k + i = omega (arith, ltb-false b (2 ^ k) e) in
            let l : i < 2 ^ k = omega (arith, ltb-false b (2 ^ k) e, pow-suc 2 k) in
            let at : b ≡ length t + i = s ∙ ap (◌+ i) (sym (length-sums k)) in
            ap (λ j. get_or (t ++ map (bit_xor c) t) j 0) at
            ∙ get_or-append-add t (map (bit_xor c) t) i 0
            ∙ get_or-map c t i (rw (length-sums k) l)
            ∙ ap (bit_xor c) (ih i l)
            ∙ sym (ap f s ∙ f-high k i l)
