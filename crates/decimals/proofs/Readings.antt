-- Laws of reading text: what stands behind a label, and the number that digits say. Assumes nothing.
use mathlib.Core.Path.{◌≡◌, refl, sym, ap, ap₂, subst, ◌∙◌}
use mathlib.Core.Bool.{Bool, true, false, and-eq-true_iff, true≢false}
use mathlib.Core.List.{List, [], ◌∷◌, ◌++◌}
use Prim.Native.Nat.{ℕ, zero, suc, ◌+◌, ◌-◌, ◌*◌, ◌/◌, ◌%◌, ◌<◌, ◌≤◌}
use native.Mathlib.Numerals.{add-one}
use native.Mathlib.Omega.{arith}
use lib.Dec.{eqb, leb, ltb}
use lib.ListN.{length, get_or, take, drop, length-append, drop_of_length-le}
use lib.Pointwise.{pointwise, bytes_decides}
use Rattle.std.proofs.lemmas.Bool.{false_from_ne_true}
use Rattle.std.proofs.lemmas.List.{take-append-drop}
use lib.Seq.{take_at, drop_at, drop-cons, append_snoc}
use borrow.Author.Tests.{lt-ltb, le-ltb, le-leb, eq-eqb, ne_eqb, ltb-true, ltb-false, leb-true, eqb-true, eqb-false}
use Rattle.decimals.specs.Decimal.{digits, decimal}
use Rattle.decimals.specs.Reading.{starts_with, is_digit, number, digits_from, decimal_at}
use Rattle.std.specs.Prelude.{None}
use Rattle.decimals.specs.declared.Number.{Number}
use Rattle.decimals.proofs.Decimals.{leading-some, digits-one, decimal-last}

-- ---- at the edges of the rules

-- of `07` only the 0 is a number
zero-in-front : decimal_at (48 ∷ 55 ∷ []) ≡ number 0 1
unfolding decimal_at digits_from
zero-in-front = refl

-- the bytes before `0` and behind `9` end a number
ended : decimal_at (57 ∷ 47 ∷ []) ≡ number 9 1
unfolding decimal_at digits_from
ended = refl

ended-above : decimal_at (57 ∷ 58 ∷ []) ≡ number 9 1
unfolding decimal_at digits_from
ended-above = refl

-- the largest number of 64 bits, and the one behind it
largest : decimal_at (decimal 18446744073709551615) ≡ number 18446744073709551615 20
unfolding decimal_at digits_from digits
largest = refl

too_large : decimal_at (decimal 18446744073709551616) ≡ None
unfolding decimal_at digits_from digits
too_large = refl

-- a text that ends in its label, and one that differs in the last byte
cut_short : starts_with (97 ∷ 98 ∷ []) (97 ∷ []) ≡ false
unfolding starts_with
cut_short = refl

last-differs : starts_with (97 ∷ 98 ∷ []) (97 ∷ 99 ∷ []) ≡ false
unfolding starts_with
last-differs = refl

-- ---- labels

pub starts-same : (t s : List ℕ) → starts_with t (t ++ s) ≡ true
unfolding starts_with
starts-same [] s = refl
starts-same (a ∷ t) s = rw (eq-eqb a a refl) (starts-same t s)

pub starts-split : (t s : List ℕ) → starts_with t s ≡ true → s ≡ t ++ drop (length t) s
unfolding starts_with
starts-split [] s e = refl
starts-split (a ∷ t) [] e = let z : ◌≡◌ {A = ℕ} 0 1 = cc in absurd (omega arith)
starts-split (a ∷ t) (b ∷ s) e =
    let r = (and-eq-true_iff (eqb a b) (starts_with t s)).0 e in
    ap₂ ◌∷◌ (sym (eqb-true a b r.0)) (starts-split t s r.1)

pub starts-inside : (t s : List ℕ) → starts_with t s ≡ true → length t ≤ length s
starts-inside t s e = omega (arith, ap length (starts-split t s e) ∙ length-append t (drop (length t) s))

-- as std's slices are compared
pub starts-equal : (t s : List ℕ) → pointwise eqb (take (length t) s) t ≡ true → starts_with t s ≡ true
starts-equal t s e =
    let same : take (length t) s ≡ t = (bytes_decides (take (length t) s) t).0 e in
    ap (starts_with t) (sym (take-append-drop (length t) s) ∙ ap (◌++ drop (length t) s) same) ∙ starts-same t (drop (length t) s)

pub starts-unequal : (t s : List ℕ) → pointwise eqb (take (length t) s) t ≡ false → starts_with t s ≡ false
starts-unequal t s e = go (starts_with t s) refl
  where
    go : (r : Bool) → starts_with t s ≡ r → r ≡ false
    go false w = refl
    go true w =
        let same : take (length t) s ≡ t = ap (take (length t)) (starts-split t s w) ∙ take_at t (drop (length t) s) (length t) refl in
        absurd (true≢false (sym ((bytes_decides (take (length t) s) t).1 same) ∙ e))

-- ---- a digit

pub digit-bounds : (b : ℕ) → is_digit b ≡ true → (48 ≤ b) × (b ≤ 57)
digit-bounds b e = let r = (and-eq-true_iff (leb 48 b) (leb b 57)).0 e in (leb-true 48 b r.0, leb-true b 57 r.1)

digit-within : (b : ℕ) → 48 ≤ b → b ≤ 57 → is_digit b ≡ true
digit-within b l h = (and-eq-true_iff (leb 48 b) (leb b 57)).1 (le-leb 48 b l, le-leb b 57 h)

-- one more behind a number
decimal-more : (v d : ℕ) → (v ≡ 0 → ⊥) → d < 10 → 10 * v + d < 18446744073709551616 → decimal (10 * v + d) ≡ decimal v ++ (48 + d) ∷ []
decimal-more v d z l h =
    let q : (10 * v + d) / 10 ≡ v = omega arith in
    let r : (10 * v + d) % 10 ≡ d = omega arith in
    decimal-last (10 * v + d) h ∙ rw (q, r, leading-some v z)

-- ---- the digits that stand behind a number

-- the text goes on with no digit
pub digits-end : (v k : ℕ) (s : List ℕ) → is_digit (get_or s 0 0) ≡ false → digits_from v k s ≡ number v k
unfolding digits_from
digits-end v k [] e = refl
digits-end v k (b ∷ s) e = rw e

pub digits-next : (v k b : ℕ) (s : List ℕ) → is_digit b ≡ true → 10 * v + (b - 48) < 18446744073709551616
    → digits_from v k (b ∷ s) ≡ digits_from (10 * v + (b - 48)) (k + 1) s
unfolding digits_from
digits-next v k b s e h = rw (e, lt-ltb (10 * v + (b - 48)) 18446744073709551616 h)

pub digits-over : (v k b : ℕ) (s : List ℕ) → is_digit b ≡ true → 18446744073709551616 ≤ 10 * v + (b - 48) → digits_from v k (b ∷ s) ≡ None
unfolding digits_from
digits-over v k b s e h = rw (e, le-ltb (10 * v + (b - 48)) 18446744073709551616 h)

-- i digits of the text are read
pub record DigitsRead (s : List ℕ) (first value bytes i : ℕ) : Type 0 where
  pub count : bytes ≡ i + 1
  pub rest : digits_from first 1 s ≡ digits_from value bytes (drop i s)

module _ {s : List ℕ} {first value bytes i : ℕ} (w : DigitsRead s first value bytes i) where
  digits-here : i < length s → digits_from first 1 s ≡ digits_from value bytes (get_or s i 0 ∷ drop (i + 1) s)
  digits-here h = w.rest ∙ rw (add-one, drop-cons s i 0 h)

  pub digits-one-more : (v : ℕ) → i < length s → is_digit (get_or s i 0) ≡ true → 10 * value + (get_or s i 0 - 48) < 18446744073709551616
      → v ≡ 10 * value + (get_or s i 0 - 48) → DigitsRead s first v (bytes + 1) (i + 1)
  digits-one-more v h d room e =
      rw e
      (record {
        count = omega (arith, w.count);
        rest = digits-here h ∙ digits-next value bytes (get_or s i 0) (drop (i + 1) s) d room;
      })

  pub digits-no-room : i < length s → is_digit (get_or s i 0) ≡ true → 18446744073709551616 ≤ 10 * value + (get_or s i 0 - 48)
      → None ≡ digits_from first 1 s
  digits-no-room h d over =
      sym (digits-here h ∙ digits-over value bytes (get_or s i 0) (drop (i + 1) s) d over)

  pub digits-before : i < length s → (is_digit (get_or s i 0) ≡ true → ⊥) → number value bytes ≡ digits_from first 1 s
  digits-before h e = sym (digits-here h ∙ digits-end value bytes (get_or s i 0 ∷ drop (i + 1) s) (false_from_ne_true (is_digit (get_or s i 0)) e))

  pub digits-all : length s ≤ i → number value bytes ≡ digits_from first 1 s
  digits-all h = sym (w.rest ∙ rw (drop_of_length-le s {i = i} h) (digits-end value bytes [] refl))

-- ---- the first byte

pub decimal-none : (s : List ℕ) → length s ≡ 0 → None ≡ decimal_at s
unfolding decimal_at
decimal-none [] e = refl
decimal-none (b ∷ s) e = absurd (omega arith)

-- the text is a byte and others behind it
pub decimal-zero : (b : ℕ) (t : List ℕ) → b ≡ 48 → decimal_at (b ∷ t) ≡ number 0 1
unfolding decimal_at
decimal-zero b t e = rw e

pub decimal-other : (b : ℕ) (t : List ℕ) → (b ≡ 48 → ⊥) → (is_digit b ≡ true → ⊥) → decimal_at (b ∷ t) ≡ None
unfolding decimal_at
decimal-other b t z e = rw (ne_eqb b 48 z, false_from_ne_true (is_digit b) e)

pub decimal-first : (b : ℕ) (t : List ℕ) (d : ℕ) → (b ≡ 48 → ⊥) → is_digit b ≡ true → d ≡ b - 48 → decimal_at (b ∷ t) ≡ digits_from d 1 t
unfolding decimal_at
decimal-first b t d z e q = rw (q, ne_eqb b 48 z, e)

pub ruleset by_first_byte = (decimal-zero, decimal-other, decimal-first)

-- ---- what was written is read

-- after its first digits the reader stands where the number is its value so far
decimal-digits : (k n : ℕ) (s : List ℕ) → n ≤ k → (n ≡ 0 → ⊥) → n < 18446744073709551616 → decimal_at (decimal n ++ s) ≡ digits_from n (length (decimal n)) s
unfolding decimal_at
decimal-digits zero n s l z h = absurd (z (omega arith))
decimal-digits (suc k) n s l z h = go (λ m s. decimal-digits k m s) (ltb n 10) refl
  where
    Reads : ℕ → List ℕ → Type 0
    Reads n s = decimal_at (decimal n ++ s) ≡ digits_from n (length (decimal n)) s

    go : ((m : ℕ) (s : List ℕ) → m ≤ k → (m ≡ 0 → ⊥) → m < 18446744073709551616 → Reads m s) → (t : Bool) → ltb n 10 ≡ t → Reads n s
    go r true e =
        let small = ltb-true n 10 e in
        let value : 48 + n - 48 ≡ n = omega arith in
        rw (digits-one 19 n small, ne_eqb (48 + n) 48 (λ x. z (omega arith)), digit-within (48 + n) (omega arith) (omega arith), value)
    go r false e =
        let large = ltb-false n 10 e in
        let d = n % 10 in
        let last : 10 * (n / 10) + (48 + d - 48) ≡ n = omega arith in
        let written : decimal n ≡ decimal (n / 10) ++ (48 + d) ∷ [] = decimal-last n h ∙ rw (leading-some (n / 10) (λ x. omega arith)) in
        rw written (rw (append_snoc, length-append) (r (n / 10) ((48 + d) ∷ s) (omega arith) (λ x. omega arith) (omega arith)
        ∙ digits-next (n / 10) (length (decimal (n / 10))) (48 + d) s (digit-within (48 + d) (omega arith) (omega arith)) (omega arith)
        ∙ rw last))

pub decimal-read : (n : ℕ) (s : List ℕ) → n < 18446744073709551616 → is_digit (get_or s 0 0) ≡ false → decimal_at (decimal n ++ s) ≡ number n (length (decimal n))
unfolding decimal_at digits
decimal-read zero s h e = refl
decimal-read (suc n) s h e = decimal-digits (suc n) (suc n) s (omega arith) (λ z. omega arith) h ∙ digits-end (suc n) (length (decimal (suc n))) s e

-- ---- what is read was written

-- the text begins with the number n, in k digits
pub record Reads (s : List ℕ) (n k : ℕ) : Type 0 where
  pub small : n < 18446744073709551616
  pub digits : k ≡ length (decimal n)
  pub text : s ≡ decimal n ++ drop k s

pub reads-inside : {s : List ℕ} {n k : ℕ} → Reads s n k → k ≤ length s
reads-inside {s} {n} {k} r = omega (arith, r.digits, ap length r.text ∙ length-append (decimal n) (drop k s))

reads-number : (s : List ℕ) (v k : ℕ) → v < 18446744073709551616 → k ≡ length (decimal v) → Reads (decimal v ++ s) v k
reads-number s v k h e = record { small = h; digits = e; text = ap (decimal v ++◌) (sym (drop_at (decimal v) s k (sym e))) }

pub number-parts : {v k n m : ℕ} → number v k ≡ number n m → (v ≡ n) × (k ≡ m)
number-parts {v} {k} {n} {m} e =
    let same : ◌≡◌ {A = Number} (record { value = v; bytes = k }) (record { value = n; bytes = m }) = cc in
    (ap (λ (x : Number). x.value) same, ap (λ (x : Number). x.bytes) same)

-- no digit more
reads_end : (s : List ℕ) (v k n m : ℕ) → v < 18446744073709551616 → k ≡ length (decimal v) → number v k ≡ number n m → Reads (decimal v ++ s) n m
reads_end s v k n m h e f =
    let same = number-parts f in
    subst (λ x. Reads (decimal v ++ s) x m) same.0 (subst (λ x. Reads (decimal v ++ s) v x) same.1 (reads-number s v k h e))

reads-digits : (s : List ℕ) (v k n m : ℕ) → (v ≡ 0 → ⊥) → v < 18446744073709551616 → k ≡ length (decimal v) → digits_from v k s ≡ number n m → Reads (decimal v ++ s) n m
unfolding digits_from
reads-digits [] v k n m z h e f = reads_end [] v k n m h e f
reads-digits (b ∷ s) v k n m z h e f = go (reads-digits s (10 * v + (b - 48)) (k + 1) n m) (is_digit b) refl (ltb (10 * v + (b - 48)) 18446744073709551616) refl
  where
    go : ((10 * v + (b - 48) ≡ 0 → ⊥) → 10 * v + (b - 48) < 18446744073709551616 → k + 1 ≡ length (decimal (10 * v + (b - 48)))
        → digits_from (10 * v + (b - 48)) (k + 1) s ≡ number n m → Reads (decimal (10 * v + (b - 48)) ++ s) n m)
        → (t : Bool) → is_digit b ≡ t → (u : Bool) → ltb (10 * v + (b - 48)) 18446744073709551616 ≡ u → Reads (decimal v ++ b ∷ s) n m
    go r false d u g = reads_end (b ∷ s) v k n m h e (sym (digits-end v k (b ∷ s) d) ∙ f)
    go r true d false g =
        let over = digits-over v k b s d (ltb-false (10 * v + (b - 48)) 18446744073709551616 g) in
        let z : ◌≡◌ {A = ℕ} 0 1 = cc in
        absurd (omega arith)
    go r true d true g =
        let bounds = digit-bounds b d in
        let small = ltb-true (10 * v + (b - 48)) 18446744073709551616 g in
        let byte : 48 + (b - 48) ≡ b = omega arith in
        let more : decimal (10 * v + (b - 48)) ≡ decimal v ++ b ∷ [] = decimal-more v (b - 48) z (omega arith) small ∙ rw byte in
        subst (λ x. Reads x n m) (ap (◌++ s) more ∙ append_snoc (decimal v) b s)
        (r (λ x. omega arith) small (omega (arith, ap length more ∙ length-append (decimal v) (b ∷ []))) (sym (digits-next v k b s d small) ∙ f))

pub read-decimal : (s : List ℕ) (n k : ℕ) → decimal_at s ≡ number n k → Reads s n k
unfolding decimal_at digits
read-decimal [] n k f = let z : ◌≡◌ {A = ℕ} 0 1 = cc in absurd (omega arith)
read-decimal (b ∷ s) n k f = go (eqb b 48) refl (is_digit b) refl
  where
    go : (t : Bool) → eqb b 48 ≡ t → (u : Bool) → is_digit b ≡ u → Reads (b ∷ s) n k
    go true e u d =
        let zero-first : b ≡ 48 = eqb-true b 48 e in
        subst (λ x. Reads (x ∷ s) n k) (sym zero-first) (reads_end s 0 1 n k (omega arith) refl (rw e at f))
    go false e false d = let g = rw (e, d) at f in let z : ◌≡◌ {A = ℕ} 0 1 = cc in absurd (omega arith)
    go false e true d =
        let bounds = digit-bounds b d in
        let byte : 48 + (b - 48) ≡ b = omega arith in
        let one-digit : decimal (b - 48) ≡ b ∷ [] = digits-one 19 (b - 48) (omega arith) ∙ rw byte in
        subst (λ x. Reads (x ++ s) n k) one-digit
        (reads-digits s (b - 48) 1 n k (λ z. eqb-false b 48 e (omega arith)) (omega arith) (sym (ap length one-digit)) (rw (e, d) at f))
