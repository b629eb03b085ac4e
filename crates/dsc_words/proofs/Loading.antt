-- Words out of a frame's bytes and into bytes: the protected part out of three machine words, and back. Assumes nothing.
use mathlib.Core.Path.{◌≡◌, refl, sym, ap, ap₂, ◌∙◌}
use mathlib.Core.Bool.{Bool}
use mathlib.Core.List.{List, [], ◌∷◌, ◌++◌, append_assoc, append-nil}
use Prim.Native.Nat.{ℕ, ◌+◌, ◌-◌, ◌*◌, ◌/◌, ◌%◌, ◌^◌, ◌≤◌, ◌<◌}
use native.Mathlib.Nat.{div-one}
use native.Mathlib.Omega.{arith}
use lib.Bits.{bit_or}
use lib.ListN.{length, get_or, set, take, drop, length-append, drop_of_length-le}
use lib.Pow as pow
use lib.Pow.{shl-shr, shr-shr}
use lib.Seq.{sets, sets-eq, take-add, drop-drop}
use Rattle.bits.specs.Bits.{digit, value, bits_of, bits, bytes}
use Rattle.bits.specs.Field.{field_at}
use Rattle.bits.proofs.Bits.{length-bits_of, length-bytes, value-bits_of, value-take-lt, bits_of-add, take-drop-bits_of, bytes-append}
use Rattle.bits.proofs.Field.{bits-of-field}
use Rattle.bits.proofs.Slices.{sets-append}
use Rattle.gf2.specs.Polynomial.{zeros}
use Rattle.lanes.proofs.Number.{bits_of-wider, bits_of-low, bits_of-shl, bits_of-join}
use Rattle.dsc.specs.Repair.{protected, word_bytes}
use Rattle.dsc_bits.proofs.Octets.{bytes-at}
use Rattle.dsc_words.specs.Words.{word_of}

-- ---- the protected part out of the last 24 bytes of a frame, as three machine words

module _ (f : List ℕ) (h : length f ≡ 26) where
  -- the first of them without its first bit and its last four
  first_word : (z : ℕ) → z ≡ field_at f 16 64 → bits_of 59 (z * 2 ^ 1 % 2 ^ 64 / 2 ^ 5) ≡ take 59 (drop 17 (bits f))
  first_word z ez =
      ap (bits_of 59) (pow.field (z * 2 ^ 1) 59 5)
      ∙ bits_of-low 59 (z * 2 ^ 1 / 2 ^ 5)
      ∙ ap (bits_of 59) (sym (shr-shr (z * 2 ^ 1) 1 4) ∙ ap (◌/ 2 ^ 4) (shl-shr z 1 ∙ ez))
      ∙ sym (bits-of-field f 16 1 59 4 (omega arith))

  -- the last four bits of one, u, and all but the last four of the next, v
  next_word : (u v k : ℕ) → k + 128 ≤ 208 → u ≡ field_at f k 64 → v ≡ field_at f (k + 64) 64
      → bits_of 64 (bit_or (v / 2 ^ 4) (u * 2 ^ 60 % 2 ^ 64)) ≡ take 64 (drop (k + 60) (bits f))
  next_word u v k l eu ev =
      let fits : field_at f (k + 64) 64 < 2 ^ 64 = value-take-lt 64 (drop (k + 64) (bits f)) in
      let place : k + 64 + 0 ≡ k + 60 + 4 = omega arith in
      bits_of-join 4 60 v u (omega arith)
      ∙ ap₂ ◌++◌ (ap (bits_of 4) (eu ∙ sym (div-one (field_at f k 64))) ∙ sym (bits-of-field f k 60 4 0 (omega arith)))
      (ap (λ n. bits_of 60 (n / 2 ^ 4)) ev
      ∙ sym (bits-of-field f (k + 64) 0 60 4 (omega arith))
      ∙ ap (take 60) (ap (λ n. drop n (bits f)) place ∙ sym (drop-drop 4 (k + 60) (bits f))))
      ∙ sym (take-add 4 60 (drop (k + 60) (bits f)))

  -- the three words that the code makes of them hold the protected part
  pub three-words : (x y z : ℕ) → x ≡ field_at f 144 64 → y ≡ field_at f 80 64 → z ≡ field_at f 16 64
      → word_of (bit_or (x / 2 ^ 4) (y * 2 ^ 60 % 2 ^ 64)) (bit_or (y / 2 ^ 4) (z * 2 ^ 60 % 2 ^ 64)) (z * 2 ^ 1 % 2 ^ 64 / 2 ^ 5) ≡ protected f
  unfolding word_of protected
  three-words x y z ex ey ez =
      let l = bits f in
      ap₂ ◌++◌ (first_word z ez) (ap₂ ◌++◌ (next_word z y 16 (omega arith) ez ey) (next_word y x 80 (omega arith) ey ex))
      ∙ sym
      (take-add 59 128 (drop 17 l)
      ∙ ap (λ t. take 59 (drop 17 l) ++ take 128 t) (drop-drop 59 17 l)
      ∙ ap (take 59 (drop 17 l) ++◌) (take-add 64 64 (drop 76 l) ∙ ap (λ t. take 64 (drop 76 l) ++ take 64 t) (drop-drop 64 76 l)))

-- ---- the 26 bytes of a word

-- byte i of a machine word, the highest first
pub word_byte : (n i : ℕ) → i < 8 → get_or (bytes 8 (bits_of 64 n)) i 0 ≡ n / 2 ^ (56 - 8 * i) % 2 ^ 8
word_byte n i h =
    bytes-at 8 (bits_of 64 n) i h
    ∙ ap value (take-drop-bits_of 64 n (8 * i) 8 (omega arith))
    ∙ value-bits_of 8 (n / 2 ^ (64 - 8 * i - 8))
    ∙ ap (λ k. n / 2 ^ k % 2 ^ 8) (let e : 64 - 8 * i - 8 ≡ 56 - 8 * i = omega arith in e)

-- 16 clear bits are two clear bytes
two-clear : bytes 2 (zeros 16) ≡ 0 ∷ 0 ∷ []
unfolding bytes value digit
two-clear = refl

-- two clear bytes and three machine words stored over 26 bytes
stored : (l : List ℕ) (x y z : ℕ) → length l ≡ 26
    → sets (sets (sets (set (set l 0 0) 1 0) 2 (bytes 8 (bits_of 64 z))) 10 (bytes 8 (bits_of 64 y))) 18 (bytes 8 (bits_of 64 x))
    ≡ bytes 26 (zeros 16 ++ (bits_of 64 z ++ (bits_of 64 y ++ bits_of 64 x)))
stored l x y z h =
    let len : (n : ℕ) → length (bytes 8 (bits_of 64 n)) ≡ 8 = λ n. length-bytes 8 (bits_of 64 n) in
    let a = bytes 8 (bits_of 64 z) in
    let b = bytes 8 (bits_of 64 y) in
    let c = bytes 8 (bits_of 64 x) in
    let all : List ℕ = 0 ∷ 0 ∷ (a ++ (b ++ c)) in
    let lb : length (b ++ c) ≡ 16 = length-append b c ∙ ap₂ ◌+◌ (len y) (len x) in
    let la : length (a ++ (b ++ c)) ≡ 24 = length-append a (b ++ c) ∙ ap₂ ◌+◌ (len z) lb in
    ap (λ n. sets (sets (sets (set (set l 0 0) 1 0) 2 a) 10 b) n c) (omega (arith, len y))
    ∙ sets-append (sets (set (set l 0 0) 1 0) 2 a) 10 b c
    ∙ ap (λ n. sets (sets (set (set l 0 0) 1 0) 2 a) n (b ++ c)) (omega (arith, len z))
    ∙ sets-append (set (set l 0 0) 1 0) 2 a (b ++ c)
    ∙ sets-eq all l 0 (omega arith)
    ∙ ap (all ++◌) (drop_of_length-le l {i = 0 + length all} (omega arith))
    ∙ append-nil all
    ∙ sym (bytes-append 2 24 (zeros 16) (bits_of 64 z ++ (bits_of 64 y ++ bits_of 64 x)) refl
    ∙ ap₂ ◌++◌ two-clear
    (bytes-append 8 16 (bits_of 64 z) (bits_of 64 y ++ bits_of 64 x) (length-bits_of 64 z)
    ∙ ap (a ++◌) (bytes-append 8 8 (bits_of 64 y) (bits_of 64 x) (length-bits_of 64 y))))

-- parts of three rows, joined as parts of three others
regroup : (a b c d e z : List Bool) → (a ++ ((b ++ c) ++ (d ++ e))) ++ z ≡ (a ++ b) ++ ((c ++ d) ++ (e ++ z))
regroup a b c d e z = simp append_assoc

-- the three words that hold a word, stored one after the other
pub stored-word : (low middle high : ℕ) (l one two three : List ℕ) → length l ≡ 26 → low < 2 ^ 64 → middle < 2 ^ 64 → high < 2 ^ 59
    → one ≡ sets (set (set l 0 0) 1 0) 2 (bytes 8 (bits_of 64 (bit_or (middle / 2 ^ 60) (high * 2 ^ 4 % 2 ^ 64))))
    → two ≡ sets one 10 (bytes 8 (bits_of 64 (bit_or (low / 2 ^ 60) (middle * 2 ^ 4 % 2 ^ 64))))
    → three ≡ sets two 18 (bytes 8 (bits_of 64 (low * 2 ^ 4 % 2 ^ 64)))
    → three ≡ word_bytes (word_of low middle high)
unfolding word_of word_bytes
stored-word low middle high l one two three h hl hm hh e₁ e₂ e₃ =
    let x = low * 2 ^ 4 % 2 ^ 64 in
    let y = bit_or (low / 2 ^ 60) (middle * 2 ^ 4 % 2 ^ 64) in
    let z = bit_or (middle / 2 ^ 60) (high * 2 ^ 4 % 2 ^ 64) in
    let a = bits_of 59 high in
    let b = bits_of 4 (middle / 2 ^ 60) in
    let c = bits_of 60 middle in
    let d = bits_of 4 (low / 2 ^ 60) in
    let f = bits_of 60 low in
    e₃
    ∙ ap (λ o. sets o 18 (bytes 8 (bits_of 64 x))) (e₂ ∙ ap (λ o. sets o 10 (bytes 8 (bits_of 64 y))) e₁)
    ∙ stored l x y z h
    ∙ ap (λ t. bytes 26 (zeros 16 ++ t))
    (ap₂ ◌++◌ (bits_of-join 60 4 middle high hm ∙ ap (◌++ b) (bits_of-wider 1 59 high hh)) (ap₂ ◌++◌ (bits_of-join 60 4 low middle hl) (bits_of-shl 60 4 low)))
    ∙ ap (λ t. bytes 26 (zeros 17 ++ t)) (sym (ap₂ (λ m l. (a ++ (m ++ l)) ++ zeros 4) (bits_of-add 4 60 middle) (bits_of-add 4 60 low) ∙ regroup a b c d f (zeros 4)))
