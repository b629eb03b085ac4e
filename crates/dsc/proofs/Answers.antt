-- The answer to a frame: what it is by cases, that it meets demand 3, and that no other does. Assumes nothing.
use mathlib.Core.Path.{◌≡◌, refl, sym, ap, ◌∙◌, subst}
use mathlib.Core.Bool.{Bool, true, false, cond}
use mathlib.Core.Logic.{◌≢◌}
use mathlib.Core.List.{List, [], ◌∷◌, ◌++◌}
use Prim.Native.Nat.{ℕ, ◌+◌, ◌≤◌}
use native.Mathlib.Omega.{arith}
use lib.Dec.{eqb}
use lib.ListN.{length, take, drop, replicate, length-append, length-drop}
use lib.Seq.{length-take-le, drop_at, take_at}
use borrow.Author.Tests.{eq-eqb, ne_eqb, eqb-true, eqb-false}
use Rattle.bits.specs.Bits.{digit, odd, value, bits_of, bits, bytes}
use Rattle.bits.proofs.Bits.{length-bits, length-bytes, bits-bytes}
use Rattle.gf2.specs.Polynomial.{zeros}
use Rattle.dsc.specs.Code.{CodeWord, dist}
use Rattle.dsc.specs.Repair.{protected, word_bytes, Decoded, corrected, beyond, decode, repaired_to, refused_with, answer_to, number_of, repair_of, left_in, Repairs}
use Rattle.dsc.specs.declared.Answer.{Answer}
use Rattle.dsc.specs.declared.Outcome.TheVariants as outcome
use Rattle.dsc.proofs.Decoding.{decode-found, decode-none, Nearest, one, none, nearest}

-- ---- one frame, bit by bit: of its 208 bits only B17 is set, the second bit of its third byte, and B203, the fourth of its last

ends : List ℕ
ends = 0 ∷ 0 ∷ 64 ∷ (replicate 22 0 ++ (16 ∷ []))

first_and_last : List Bool
first_and_last = true ∷ (zeros 185 ++ (true ∷ []))

ends-protected : protected ends ≡ first_and_last
unfolding ends first_and_last protected bits bits_of odd
ends-protected = refl

ends-bytes : word_bytes first_and_last ≡ ends
unfolding ends first_and_last word_bytes bytes value digit
ends-bytes = refl

-- in the 26 bytes of a refusal no bit is set
refused-bits : (n : ℕ) → bits (refused_with n).word ≡ zeros 208
unfolding bits bits_of odd
refused-bits n = refl

-- ---- the protected part

pub length-protected : (f : List ℕ) → length f ≡ 26 → length (protected f) ≡ 187
unfolding protected
length-protected f h = length-take-le 187 (drop 17 (bits f)) (omega (arith, length-drop 17 (bits f), length-bits f))

pub length-word_bytes : (w : List Bool) → length (word_bytes w) ≡ 26
unfolding word_bytes
length-word_bytes w = length-bytes 26 (zeros 17 ++ (w ++ zeros 4))

pub bits-word_bytes : (w : List Bool) → length w ≡ 187 → bits (word_bytes w) ≡ zeros 17 ++ (w ++ zeros 4)
unfolding word_bytes
bits-word_bytes w h =
    bits-bytes 26 (zeros 17 ++ (w ++ zeros 4))
    (length-append (zeros 17) (w ++ zeros 4) ∙ ap (17 +◌) (length-append w (zeros 4) ∙ ap (◌+ 4) h))

pub protected-word_bytes : (w : List Bool) → length w ≡ 187 → protected (word_bytes w) ≡ w
unfolding protected
protected-word_bytes w h =
    ap (λ b. take 187 (drop 17 b)) (bits-word_bytes w h)
    ∙ ap (take 187) (drop_at (zeros 17) (w ++ zeros 4) 17 refl)
    ∙ take_at w (zeros 4) 187 h

-- ---- the answer by cases

pub repair-short : (f : List ℕ) → length f ≢ 26 → repair_of f ≡ refused_with 1
unfolding repair_of
repair-short f h = rw (ne_eqb (length f) 26 h)

-- what holds of each of the repair's three answers holds of its answer to f
pub answered : (f : List ℕ) (P : Answer → Type 0) → ((c : List Bool) (n : ℕ) → P (repaired_to c n)) → P (refused_with 4) → P (refused_with 1) → P (repair_of f)
unfolding repair_of answer_to
answered f P fixed far short = go (eqb (length f) 26) (decode (protected f))
  where
    go : (t : Bool) (d : Decoded) → P (cond t (answer_to (protected f) d) (refused_with 1))
    go true (corrected c) = fixed c _
    go true beyond = far
    go false d = short

module _ (f : List ℕ) (h : length f ≡ 26) where
  pub repair-decoded : (d : Decoded) → decode (protected f) ≡ d → repair_of f ≡ answer_to (protected f) d
  unfolding repair_of
  repair-decoded d e = rw (eq-eqb (length f) 26 h, e)

  pub repair-found : (c : List Bool) → CodeWord c → dist (protected f) c ≤ 8 → repair_of f ≡ repaired_to c (dist (protected f) c)
  unfolding answer_to
  repair-found c k d = repair-decoded (corrected c) (decode-found (protected f) (length-protected f h) c k d)

  pub repair-none : ((c : List Bool) → CodeWord c → dist (protected f) c ≤ 8 → ⊥) → repair_of f ≡ refused_with 4
  unfolding answer_to
  repair-none n = repair-decoded beyond (decode-none (protected f) (length-protected f h) n)

  repair-not-one : Nearest (protected f) → number_of (repair_of f) ≢ 1
  repair-not-one (one c k d) e = let z : ◌≡◌ {A = ℕ} 0 1 = sym (ap number_of (repair-found c k d)) ∙ e in omega arith
  repair-not-one (none n) e = let z : ◌≡◌ {A = ℕ} 4 1 = sym (ap number_of (repair-none n)) ∙ e in omega arith

pub repairs : (f : List ℕ) → Repairs f (repair_of f)
repairs f =
    record {
      short = repair-short f;
      long = λ h. repair-not-one f h (nearest (protected f) (length-protected f h));
      found = repair-found f;
      none = repair-none f;
    }

pub repairs-only : (f : List ℕ) (a : Answer) → Repairs f a → a ≡ repair_of f
repairs-only f a m = go (eqb (length f) 26) refl
  where
    full : length f ≡ 26 → Nearest (protected f) → a ≡ repair_of f
    full h (one c k d) = m.found h c k d ∙ sym (repair-found f h c k d)
    full h (none n) = m.none h n ∙ sym (repair-none f h n)

    go : (t : Bool) → eqb (length f) 26 ≡ t → a ≡ repair_of f
    go true e = let h = eqb-true (length f) 26 e in full h (nearest (protected f) (length-protected f h))
    go false e = let h : length f ≢ 26 = eqb-false (length f) 26 e in m.short h ∙ sym (repair-short f h)

-- an answer that meets demand 3 is the defined one: what the function promises
pub met : (f : List ℕ) (a : Answer) → a ≡ repair_of f → Repairs f a × (a ≡ repair_of f)
met f a e = (subst (Repairs f) (sym e) (repairs f), e)

-- ---- what stands in a buffer w after the answer a

module _ (a : Answer) (w : List ℕ) {n : ℕ} where
  pub left-refused : refused_with n ≡ a → (outcome.Refused n ≡ a.outcome) × (w ≡ left_in a w)
  left-refused e = (ap (λ a. a.outcome) e, ap (λ a. left_in a w) e)

  pub left-repaired : (c : List Bool) {g : List ℕ} → repaired_to c n ≡ a → g ≡ word_bytes c → (outcome.Repaired n ≡ a.outcome) × (g ≡ left_in a w)
  left-repaired c e q = (ap (λ a. a.outcome) e, q ∙ ap (λ a. left_in a w) e)
