-- Laws of numbers, bits and bytes.
-- Assumes nothing.
use mathlib.Core.Path.{◌≡◌, refl, sym, ap, ap₂, ◌∙◌, subst}
use mathlib.Core.Bool.{Bool, true, false}
use mathlib.Core.List.{List, [], ◌∷◌, ◌++◌, append_assoc, append-nil}
use Prim.Native.Nat.{ℕ, zero, suc, ◌+◌, ◌-◌, ◌*◌, ◌/◌, ◌%◌, ◌^◌, ◌≤◌, ◌<◌}
use native.Mathlib.Nat.{mod-eq_of_lt, le_of_suc-le-suc, not-suc-le-zero, lt_of_lt_of_le, pow-suc, mod-one}
use native.Mathlib.Numerals.{one-add, add-one}
use native.Mathlib.Omega.{arith}
use lib.Dec.{eqb}
use lib.ListN.{length, get_or, set, take, drop, replicate, length-append, length-take, length-drop, take-append-drop, get_or-append}
use lib.Seq.{take_at, drop_at, take-append-le, drop-append-le, get_or-append-add, length-take-le, set_split, set-get_or}
use lib.Pow.{pow_mono, pow-add, shr-shr, high, low, mod-pow-add}
use Rattle.bits.specs.Bits.{digit, odd, value, bits_of, bits, bytes, Bytes}

-- six in three bits, the most significant first
six : bits_of 3 6 ≡ true ∷ true ∷ false ∷ []
unfolding bits_of odd
six = refl

odd-digit : (b : Bool) → odd (digit b) ≡ b
unfolding odd digit
odd-digit true = refl
odd-digit false = refl

digit-small : (n : ℕ) → n < 2 → digit (eqb n 1) ≡ n
unfolding digit
digit-small zero h = refl
digit-small (suc zero) h = refl
digit-small (suc (suc n)) h = absurd (not-suc-le-zero (le_of_suc-le-suc (le_of_suc-le-suc h)))

pub digit-odd : (n : ℕ) → digit (odd n) ≡ n % 2
unfolding odd
digit-odd n = digit-small (n % 2) (omega arith)

value-cons : (b : Bool) (bs : List Bool) → value (b ∷ bs) ≡ digit b * 2 ^ length bs + value bs
unfolding value
value-cons b bs = refl

pub length-bits_of : (w v : ℕ) → length (bits_of w v) ≡ w
unfolding bits_of
length-bits_of zero v = refl
length-bits_of (suc w) v = ap suc (length-bits_of w v)

pub value-bits_of : (w v : ℕ) → value (bits_of w v) ≡ v % 2 ^ w
unfolding bits_of value
value-bits_of zero v = sym (mod-one v)
value-bits_of (suc w) v =
    value-cons (odd (v / 2 ^ w)) (bits_of w v)
    ∙ rw (length-bits_of, value-bits_of w v, digit-odd, ← one-add w) (sym (mod-pow-add v 1 w))

pub value-lt : (bs : List Bool) → value bs < 2 ^ length bs
unfolding value digit
value-lt [] = omega arith
value-lt (true ∷ bs) = omega (arith, value-lt bs, pow-suc 2 (length bs))
value-lt (false ∷ bs) = omega (arith, value-lt bs, pow-suc 2 (length bs))

pub value-take-lt : (i : ℕ) (l : List Bool) → value (take i l) < 2 ^ i
value-take-lt i l = lt_of_lt_of_le (value-lt (take i l)) (pow_mono (simp length-take (omega arith)))

pub value-inj : (x y : List Bool) → length x ≡ length y → value x ≡ value y → x ≡ y
unfolding value
value-inj [] [] e p = refl
value-inj [] (b ∷ bs) e p = absurd (omega arith)
value-inj (a ∷ as') [] e p = absurd (omega arith)
value-inj (a ∷ as') (b ∷ bs) e p =
    let n : ℕ = length bs in
    let e' : length as' ≡ n = omega arith in
    let q : digit a * 2 ^ n + value as' ≡ digit b * 2 ^ n + value bs = subst (λ (k : ℕ). digit a * 2 ^ k + value as' ≡ digit b * 2 ^ n + value bs) e' p in
    let la : value as' < 2 ^ n = subst (λ (k : ℕ). value as' < 2 ^ k) e' (value-lt as') in
    let d : digit a ≡ digit b = sym (high (digit a) n la) ∙ ap (λ (k : ℕ). k / 2 ^ n) q ∙ high (digit b) n (value-lt bs) in
    let t : value as' ≡ value bs = sym (low (digit a) n la) ∙ ap (λ (k : ℕ). k % 2 ^ n) q ∙ low (digit b) n (value-lt bs) in
    ap₂ (λ (x : Bool) (y : List Bool). x ∷ y) (sym (odd-digit a) ∙ ap odd d ∙ odd-digit b) (value-inj as' bs e' t)

pub bits_of-value : (bs : List Bool) → bits_of (length bs) (value bs) ≡ bs
bits_of-value bs =
    value-inj (bits_of (length bs) (value bs)) bs (length-bits_of (length bs) (value bs))
    (value-bits_of (length bs) (value bs) ∙ mod-eq_of_lt (value-lt bs))

pub value-bits_of-fit : (w v : ℕ) → v < 2 ^ w → value (bits_of w v) ≡ v
value-bits_of-fit w v h = value-bits_of w v ∙ mod-eq_of_lt h

pub value-append : (a b : List Bool) → value (a ++ b) ≡ value a * 2 ^ length b + value b
unfolding value
value-append [] b = omega arith
value-append (x ∷ a) b =
    rw (length-append a b, value-append a b, pow-add) (omega arith)

-- one bit more at the end
pub value-snoc : (bs : List Bool) (b : Bool) → value (bs ++ (b ∷ [])) ≡ value bs * 2 + digit b
unfolding value
value-snoc [] b = omega arith
value-snoc (a ∷ bs) b = rw (value-cons a (bs ++ (b ∷ [])), value-cons a bs, length-append, value-snoc bs b, add-one, pow-suc) (omega arith)

-- clear bits stand for 0
pub value-zeros : (n : ℕ) → value (replicate n false) ≡ 0
unfolding value digit
value-zeros zero = refl
value-zeros (suc n) = omega (arith, value-zeros n)

-- the a high bits and the b low bits of a number
pub bits_of-add : (a b v : ℕ) → bits_of (a + b) v ≡ bits_of a (v / 2 ^ b) ++ bits_of b v
unfolding bits_of
bits_of-add zero b v = let e : 0 + b ≡ b = omega arith in ap (λ (k : ℕ). bits_of k v) e
bits_of-add (suc a) b v =
    let e : suc a + b ≡ suc (a + b) = omega arith in
    let f : b + a ≡ a + b = omega arith in
    ap (λ (k : ℕ). bits_of k v) e
    ∙ ap₂ (λ (x : Bool) (l : List Bool). x ∷ l) (sym (ap odd (shr-shr v b a ∙ ap (λ (k : ℕ). v / 2 ^ k) f))) (bits_of-add a b v)

-- n bits from the middle of a number's bits
pub take-drop-bits_of : (w v a n : ℕ) → a + n ≤ w → take n (drop a (bits_of w v)) ≡ bits_of n (v / 2 ^ (w - a - n))
take-drop-bits_of w v a n h =
    let t : ℕ = w - a - n in
    let e : w ≡ a + (n + t) = omega arith in
    ap (λ (k : ℕ). take n (drop a (bits_of k v))) e
    ∙ ap (λ (l : List Bool). take n (drop a l)) (bits_of-add a (n + t) v)
    ∙ ap (take n) (drop_at (bits_of a (v / 2 ^ (n + t))) (bits_of (n + t) v) a (length-bits_of a (v / 2 ^ (n + t))) ∙ bits_of-add n t v)
    ∙ take_at (bits_of n (v / 2 ^ t)) (bits_of t v) n (length-bits_of n (v / 2 ^ t))

pub get_or-bits_of : (w v r : ℕ) → r < w → get_or (bits_of w v) r false ≡ odd (v / 2 ^ (w - suc r))
unfolding bits_of
get_or-bits_of zero v r h = absurd (not-suc-le-zero h)
get_or-bits_of (suc w) v zero h = ap (λ (k : ℕ). odd (v / 2 ^ k)) (omega arith)
get_or-bits_of (suc w) v (suc r) h = get_or-bits_of w v r (le_of_suc-le-suc h) ∙ ap (λ (k : ℕ). odd (v / 2 ^ k)) (omega arith)

pub length-bits : (s : List ℕ) → length (bits s) ≡ 8 * length s
unfolding bits
length-bits [] = refl
length-bits (b ∷ s) = let h = length-bits s in rw (length-append, length-bits_of) (omega arith)

pub length-bytes : (n : ℕ) (bs : List Bool) → length (bytes n bs) ≡ n
unfolding bytes
length-bytes zero bs = refl
length-bytes (suc n) bs = ap suc (length-bytes n (drop 8 bs))

-- the bytes of a row of bits that begins with whole bytes
pub bytes-append : (a b : ℕ) (x y : List Bool) → length x ≡ 8 * a → bytes (a + b) (x ++ y) ≡ bytes a x ++ bytes b y
unfolding bytes
bytes-append zero b [] y e = ap (λ n. bytes n y) (let q : 0 + b ≡ b = omega arith in q)
bytes-append zero b (c ∷ x) y e = absurd (omega arith)
bytes-append (suc a) b x y e =
    let l : 8 ≤ length x = omega arith in
    ap (λ n. bytes n (x ++ y)) (let q : suc a + b ≡ suc (a + b) = omega arith in q)
    ∙ ap₂ (λ u v. value u ∷ bytes (a + b) v) (take-append-le 8 x y l) (drop-append-le 8 x y l)
    ∙ ap (value (take 8 x) ∷◌) (bytes-append a b (drop 8 x) y (length-drop 8 x ∙ omega arith))

-- bit r of byte q
pub get_or-bits : (s : List ℕ) (q r : ℕ) → r < 8 → q < length s → get_or (bits s) (8 * q + r) false ≡ odd (get_or s q 0 / 2 ^ (7 - r))
unfolding bits
get_or-bits [] q r h k = absurd (not-suc-le-zero k)
get_or-bits (b ∷ s) zero r h k =
    ap (λ (x : ℕ). get_or (bits_of 8 b ++ bits s) x false) (omega arith)
    ∙ get_or-append (bits_of 8 b) (bits s) false r (rw length-bits_of h) ∙ get_or-bits_of 8 b r h ∙ ap (λ (x : ℕ). odd (b / 2 ^ x)) (omega arith)
get_or-bits (b ∷ s) (suc q) r h k =
    ap (λ (x : ℕ). get_or (bits_of 8 b ++ bits s) x false) (rw length-bits_of (omega arith))
    ∙ get_or-append-add (bits_of 8 b) (bits s) (8 * q + r) false ∙ get_or-bits s q r h (le_of_suc-le-suc k)

pub bytes-bits : (s : List ℕ) → Bytes s → bytes (length s) (bits s) ≡ s
unfolding bytes bits
bytes-bits [] h = refl
bytes-bits (b ∷ s) h =
    rw (take_at (bits_of 8 b) (bits s) 8 (length-bits_of 8 b), drop_at (bits_of 8 b) (bits s) 8 (length-bits_of 8 b), value-bits_of-fit 8 b (h 0), bytes-bits s (λ i. h (suc i)))

pub bits-bytes : (n : ℕ) (bs : List Bool) → length bs ≡ 8 * n → bits (bytes n bs) ≡ bs
unfolding bytes bits
bits-bytes zero [] e = refl
bits-bytes zero (b ∷ bs) e = absurd (omega arith)
bits-bytes (suc n) bs e =
    let l : length (take 8 bs) ≡ 8 = length-take-le 8 bs (omega arith) in
    let t : bits_of 8 (value (take 8 bs)) ≡ take 8 bs = subst (λ (k : ℕ). bits_of k (value (take 8 bs)) ≡ take 8 bs) l (bits_of-value (take 8 bs)) in
    rw (t, bits-bytes n (drop 8 bs) (length-drop 8 bs ∙ omega arith)) (take-append-drop 8 bs)

pub bytes-Bytes : (n : ℕ) (bs : List Bool) → Bytes (bytes n bs)
unfolding bytes
bytes-Bytes zero bs i = omega arith
bytes-Bytes (suc n) bs zero = lt_of_lt_of_le (value-lt (take 8 bs)) (pow_mono {j = 8} (simp length-take (omega arith)))
bytes-Bytes (suc n) bs (suc i) = bytes-Bytes n (drop 8 bs) i

pub bits-inj : (s t : List ℕ) → Bytes s → Bytes t → length s ≡ length t → bits s ≡ bits t → s ≡ t
bits-inj s t hs ht l e =
    sym (bytes-bits s hs) ∙ ap₂ (λ (n : ℕ) (b : List Bool). bytes n b) l e ∙ bytes-bits t ht

pub bits-snoc : (s : List ℕ) (b : ℕ) → bits (s ++ (b ∷ [])) ≡ bits s ++ bits_of 8 b
unfolding bits
bits-snoc [] b = append-nil (bits_of 8 b)
bits-snoc (x ∷ s) b = ap (λ (l : List Bool). bits_of 8 x ++ l) (bits-snoc s b) ∙ sym (append_assoc (bits_of 8 x) (bits s) (bits_of 8 b))

pub bits-append : (s t : List ℕ) → bits (s ++ t) ≡ bits s ++ bits t
unfolding bits
bits-append [] t = refl
bits-append (x ∷ s) t = ap (λ (l : List Bool). bits_of 8 x ++ l) (bits-append s t) ∙ sym (append_assoc (bits_of 8 x) (bits s) (bits t))

pub bits-take : (n : ℕ) (s : List ℕ) → n ≤ length s → take (8 * n) (bits s) ≡ bits (take n s)
bits-take n s h =
    let l : length (bits (take n s)) ≡ 8 * n = length-bits (take n s) ∙ ap (λ (k : ℕ). 8 * k) (length-take-le n s h) in
    ap (take (8 * n)) (ap bits (sym (take-append-drop n s)) ∙ bits-append (take n s) (drop n s))
    ∙ take_at (bits (take n s)) (bits (drop n s)) (8 * n) l

pub bits-drop : (n : ℕ) (s : List ℕ) → n ≤ length s → drop (8 * n) (bits s) ≡ bits (drop n s)
bits-drop n s h =
    let l : length (bits (take n s)) ≡ 8 * n = length-bits (take n s) ∙ ap (λ (k : ℕ). 8 * k) (length-take-le n s h) in
    ap (drop (8 * n)) (ap bits (sym (take-append-drop n s)) ∙ bits-append (take n s) (drop n s))
    ∙ drop_at (bits (take n s)) (bits (drop n s)) (8 * n) l

-- one byte of the row replaced
pub bits-set : (s : List ℕ) (q y : ℕ) → q < length s → bits (set s q y) ≡ bits (take q s) ++ (bits_of 8 y ++ bits (drop (suc q) s))
unfolding bits
bits-set s q y h = ap bits (set_split s q y h) ∙ bits-append (take q s) (y ∷ drop (suc q) s)

pub bits-split : (s : List ℕ) (q : ℕ) → q < length s → bits s ≡ bits (take q s) ++ (bits_of 8 (get_or s q 0) ++ bits (drop (suc q) s))
bits-split s q h = ap bits (sym (set-get_or s q 0)) ∙ bits-set s q (get_or s q 0) h
