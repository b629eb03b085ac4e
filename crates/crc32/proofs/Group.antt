-- Eight bytes at once: each adds the remainder of itself and of as many bytes of zeros as come after it. Assumes nothing.
use mathlib.Core.Path.{◌≡◌, refl, sym, ap, ◌∙◌}
use mathlib.Core.Bool.{Bool}
use mathlib.Core.List.{List, [], ◌∷◌, ◌++◌, append-nil}
use Prim.Native.Nat.{ℕ, zero, suc, ◌+◌, ◌/◌, ◌%◌, ◌^◌, ◌<◌}
use native.Mathlib.Omega.{arith}
use lib.Bits.{bit_xor, xor_comm}
use lib.ListN.{length, get_or, drop, drop_of_length-le}
use lib.Seq.{drop-cons}
use Rattle.gf2.specs.Polynomial.{zeros, add, check_bits}
use Rattle.gf2.specs.Register.{feed}
use Rattle.gf2.proofs.Sum.{add-append}
use Rattle.gf2.proofs.Division.{length-check}
use Rattle.gf2.proofs.Register.{feed-long, check-append}
use Rattle.bits.specs.Bits.{value, bits_of, bits}
use Rattle.bits.proofs.Bits.{length-bits_of, length-bits, bits_of-add}
use Rattle.crc.specs.Remainders.{remainder_of}
use Rattle.lanes.proofs.Number.{value-add, add-bits_of, bits_of-low}

-- ---- the check bits of a row of bytes

-- the remainders of its bytes, summed from the last one
abbrev sum : List Bool → List ℕ → ℕ
sum g [] = 0
sum g (b ∷ []) = remainder_of g 0 b
sum g (b ∷ (c ∷ bs)) = bit_xor (sum g (c ∷ bs)) (remainder_of g (suc (length bs)) b)

check-more : (g : List Bool) (b : ℕ) (bs : List ℕ) → 0 < length g
    → value (check_bits g (bits (b ∷ bs))) ≡ bit_xor (value (check_bits g (bits bs))) (remainder_of g (length bs) b)
unfolding bits remainder_of
check-more g b bs pos =
    let front = bits_of 8 b ++ zeros (length (bits bs)) in
    ap value (check-append g (bits_of 8 b) (bits bs) pos)
    ∙ value-add (check_bits g front) (check_bits g (bits bs)) (length-check g front ∙ sym (length-check g (bits bs)))
    ∙ xor_comm (value (check_bits g front)) (value (check_bits g (bits bs)))
    ∙ ap (λ n. bit_xor (value (check_bits g (bits bs))) (value (check_bits g (bits_of 8 b ++ zeros n)))) (length-bits bs)

check-one : (g : List Bool) (b : ℕ) → value (check_bits g (bits (b ∷ []))) ≡ remainder_of g 0 b
unfolding bits remainder_of
check-one g b = refl

check-sum : (g : List Bool) (b : ℕ) (bs : List ℕ) → 0 < length g → value (check_bits g (bits (b ∷ bs))) ≡ sum g (b ∷ bs)
check-sum g b [] pos = check-one g b
check-sum g b (c ∷ bs) pos = check-more g b (c ∷ bs) pos ∙ ap (λ r. bit_xor r (remainder_of g (suc (length bs)) b)) (check-sum g c bs pos)

-- the same of eight bytes, written out
pub eight-sum : (g : List Bool) (b₀ b₁ b₂ b₃ b₄ b₅ b₆ b₇ : ℕ) {t₀ t₁ t₂ t₃ t₄ t₅ t₆ t₇ : ℕ} → 0 < length g
    → t₀ ≡ remainder_of g 0 b₇ → t₁ ≡ remainder_of g 1 b₆ → t₂ ≡ remainder_of g 2 b₅ → t₃ ≡ remainder_of g 3 b₄
    → t₄ ≡ remainder_of g 4 b₃ → t₅ ≡ remainder_of g 5 b₂ → t₆ ≡ remainder_of g 6 b₁ → t₇ ≡ remainder_of g 7 b₀
    → bit_xor (bit_xor (bit_xor (bit_xor (bit_xor (bit_xor (bit_xor t₀ t₁) t₂) t₃) t₄) t₅) t₆) t₇
    ≡ value (check_bits g (bits (b₀ ∷ b₁ ∷ b₂ ∷ b₃ ∷ b₄ ∷ b₅ ∷ b₆ ∷ b₇ ∷ [])))
eight-sum g b₀ b₁ b₂ b₃ b₄ b₅ b₆ b₇ pos e₀ e₁ e₂ e₃ e₄ e₅ e₆ e₇ =
    rw (e₀, e₁, e₂, e₃, e₄, e₅, e₆, e₇) (sym (check-sum g b₀ (b₁ ∷ b₂ ∷ b₃ ∷ b₄ ∷ b₅ ∷ b₆ ∷ b₇ ∷ []) pos))

-- ---- a register of four bytes, added to the first four of a row

add-byte : (x b : ℕ) (u w : List Bool) → add (bits_of 8 x ++ u) (bits_of 8 b ++ w) ≡ bits_of 8 (bit_xor (x % 256) b) ++ add u w
add-byte x b u w =
    add-append (bits_of 8 x) u (bits_of 8 b) w (length-bits_of 8 x ∙ sym (length-bits_of 8 b))
    ∙ ap (◌++ add u w) (ap (λ y. add y (bits_of 8 b)) (sym (bits_of-low 8 x)) ∙ add-bits_of 8 (x % 256) b)

add-register : (r b₀ b₁ b₂ b₃ : ℕ) (bs : List ℕ)
    → add (bits_of 32 r) (bits (b₀ ∷ b₁ ∷ b₂ ∷ b₃ ∷ bs))
    ≡ bits (bit_xor (r / 2 ^ 24 % 256) b₀ ∷ bit_xor (r / 2 ^ 16 % 256) b₁ ∷ bit_xor (r / 2 ^ 8 % 256) b₂ ∷ bit_xor (r % 256) b₃ ∷ bs)
unfolding bits add
add-register r b₀ b₁ b₂ b₃ bs =
    let row₁ = bits (b₁ ∷ b₂ ∷ b₃ ∷ bs) in
    let row₂ = bits (b₂ ∷ b₃ ∷ bs) in
    let row₃ = bits (b₃ ∷ bs) in
    let c₀ = bits_of 8 (bit_xor (r / 2 ^ 24 % 256) b₀) in
    let c₁ = bits_of 8 (bit_xor (r / 2 ^ 16 % 256) b₁) in
    let c₂ = bits_of 8 (bit_xor (r / 2 ^ 8 % 256) b₂) in
    ap (λ u. add u (bits_of 8 b₀ ++ row₁)) (bits_of-add 8 24 r)
    ∙ add-byte (r / 2 ^ 24) b₀ (bits_of 24 r) row₁
    ∙ ap (c₀ ++◌)
    (ap (λ u. add u (bits_of 8 b₁ ++ row₂)) (bits_of-add 8 16 r)
    ∙ add-byte (r / 2 ^ 16) b₁ (bits_of 16 r) row₂
    ∙ ap (c₁ ++◌)
    (ap (λ u. add u (bits_of 8 b₂ ++ row₃)) (bits_of-add 8 8 r)
    ∙ add-byte (r / 2 ^ 8) b₂ (bits_of 8 r) row₃
    ∙ ap (c₂ ++◌) (ap (λ u. add u (bits_of 8 b₃ ++ bits bs)) (sym (append-nil (bits_of 8 r))) ∙ add-byte r b₃ [] (bits bs))))

-- ---- a row of so many bytes, byte by byte

abbrev elements : List ℕ → ℕ → ℕ → List ℕ
elements s k zero = []
elements s k (suc n) = get_or s k 0 ∷ elements s (suc k) n

drop-elements : (s : List ℕ) (k n : ℕ) → length s ≡ k + n → drop k s ≡ elements s k n
drop-elements s k zero e = drop_of_length-le s {i = k} (omega arith)
drop-elements s k (suc n) e = drop-cons s k 0 (omega arith) ∙ ap (get_or s k 0 ∷◌) (drop-elements s (suc k) n (omega arith))

in-elements : (s : List ℕ) (n : ℕ) → length s ≡ n → s ≡ elements s 0 n
in-elements s n e = drop-elements s 0 n (omega arith)

-- ---- eight bytes into a register of four

abbrev mixed : ℕ → List ℕ → List ℕ
mixed r s =
    bit_xor (r / 2 ^ 24 % 256) (get_or s 0 0)
    ∷ bit_xor (r / 2 ^ 16 % 256) (get_or s 1 0)
    ∷ bit_xor (r / 2 ^ 8 % 256) (get_or s 2 0)
    ∷ bit_xor (r % 256) (get_or s 3 0)
    ∷ elements s 4 4

-- z is what comes of it
pub feed-eight : (g : List Bool) (r z : ℕ) (s : List ℕ) → length g ≡ 32 → length s ≡ 8 → z ≡ value (check_bits g (bits (mixed r s)))
    → z ≡ value (feed g (bits_of 32 r) (bits s))
feed-eight g r z s lg ls e =
    let row = elements s 0 8 in
    let lr : length (bits_of 32 r) ≡ length g = length-bits_of 32 r ∙ sym lg in
    e
    ∙ sym
    (ap (λ x. value (feed g (bits_of 32 r) (bits x))) (in-elements s 8 ls)
    ∙ ap value (feed-long g (bits_of 32 r) (bits row) lr (omega arith) (omega (arith, length-bits row)))
    ∙ ap (λ x. value (check_bits g x)) (add-register r (get_or s 0 0) (get_or s 1 0) (get_or s 2 0) (get_or s 3 0) (elements s 4 4)))
