-- Arrays that are filled from the front, and the numbers that bytes make up. Assumes nothing.
use mathlib.Core.Path.{◌≡◌, refl, sym, ap, ◌∙◌}
use mathlib.Core.List.{List, [], ◌∷◌, ◌++◌}
use Prim.Native.Nat.{ℕ, zero, suc, ◌+◌, ◌*◌, ◌<◌}
use native.Mathlib.Nat.{mul-suc}
use native.Mathlib.Numerals.{add-one}
use native.Mathlib.Omega.{arith}
use lib.ListN.{length, get_or, take, drop, set, replicate, length-replicate, replicate-append-replicate}
use lib.Seq.{drop-cons, drop-drop, set_at, append_snoc, take_all}
use borrow.Author.Tests.{le-leb}
use Rattle.bits.specs.Bits.{value, bits}
use Rattle.bits.specs.Field.{get_of}
use Rattle.bits.proofs.Bits.{length-bits}
use Rattle.test_values.specs.Numbers.{numbers_of}

-- the first k places hold p, and the next is stored
stored_next : (p out : List ℕ) (k x : ℕ) → length p ≡ k → k < length out → set (p ++ drop k out) k x ≡ (p ++ x ∷ []) ++ drop (k + 1) out
stored_next p out k x l h =
    rw (add-one, drop-cons out k 0 h) (set_at p (get_or out k 0) (drop (suc k) out) x k l ∙ sym (append_snoc p x (drop (suc k) out)))

-- ---- one byte in every place

pub filled_next : (out : List ℕ) (k x : ℕ) → k < length out → set (replicate k x ++ drop k out) k x ≡ replicate (k + 1) x ++ drop (k + 1) out
filled_next out k x h =
    stored_next (replicate k x) out k x (length-replicate k x) h ∙ ap (◌++ drop (k + 1) out) (replicate-append-replicate k 1 x)

-- ---- numbers

length-numbers : (n : ℕ) (s : List ℕ) → length (numbers_of n s) ≡ n
unfolding numbers_of
length-numbers zero s = refl
length-numbers (suc n) s = ap suc (length-numbers n (drop 8 s))

numbers-snoc : (n : ℕ) (s : List ℕ) → numbers_of n s ++ value (bits (take 8 (drop (8 * n) s))) ∷ [] ≡ numbers_of (suc n) s
unfolding numbers_of
numbers-snoc zero s = refl
numbers-snoc (suc n) s =
    let e : 8 * suc n ≡ 8 + 8 * n = omega (arith, mul-suc 8 n) in
    let d : drop (8 * suc n) s ≡ drop (8 * n) (drop 8 s) = ap (λ (k : ℕ). drop k s) e ∙ sym (drop-drop (8 * n) 8 s) in
    ap (λ (t : List ℕ). value (bits (take 8 s)) ∷ (numbers_of n (drop 8 s) ++ value (bits (take 8 t)) ∷ [])) d
    ∙ ap (value (bits (take 8 s)) ∷◌) (numbers-snoc n (drop 8 s))

pub numbers-next : (s out : List ℕ) (k x : ℕ) → x ≡ value (bits (take 8 (drop (8 * k) s))) → k < length out
    → set (numbers_of k s ++ drop k out) k x ≡ numbers_of (k + 1) s ++ drop (k + 1) out
numbers-next s out k x e h =
    stored_next (numbers_of k s) out k x (length-numbers k s) h
    ∙ ap (λ (y : ℕ). (numbers_of k s ++ y ∷ []) ++ drop (k + 1) out) e
    ∙ ap (◌++ drop (k + 1) out) (numbers-snoc k s ∙ ap (λ (n : ℕ). numbers_of n s) (sym (add-one k)))

-- eight bytes read as one field
pub eight-read : (t : List ℕ) → length t ≡ 8 → get_of t 0 64 ≡ value (bits t)
eight-read t l = rw (le-leb 64 (8 * length t) (omega arith)) (ap value (take_all 64 (bits t) (omega (arith, length-bits t))))
