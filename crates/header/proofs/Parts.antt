-- Rows of bytes in two parts. Assumes nothing.
use mathlib.Core.Path.{◌≡◌, sym, ap, ap₂, ◌∙◌}
use mathlib.Core.Bool.{Bool}
use mathlib.Core.List.{List, ◌++◌}
use Prim.Native.Nat.{ℕ, ◌+◌, ◌-◌, ◌*◌, ◌≤◌}
use native.Mathlib.Omega.{arith}
use lib.ListN.{length, take, drop, length-drop, take-append-drop}
use lib.Seq.{take_at, drop_at, length-take-le}
use Rattle.bits.specs.Bits.{bits, bytes, Bytes}
use Rattle.bits.proofs.Bits.{bytes-bits, bits-take, bits-drop}
use Rattle.header.proofs.Sealed.{Bytes-take, Bytes-drop}

-- n bytes whose bits are a, and m whose bits are b
pub bytes-parts : (t : List ℕ) (n m : ℕ) (a b : List Bool) → Bytes t → length t ≡ n + m → length a ≡ 8 * n → bits t ≡ a ++ b → t ≡ bytes n a ++ bytes m b
bytes-parts t n m a b h l la e =
    let lt : length (take n t) ≡ n = length-take-le n t (omega arith) in
    let ld : length (drop n t) ≡ m = length-drop n t ∙ omega arith in
    let bt : bits (take n t) ≡ a = sym (bits-take n t (omega arith)) ∙ ap (take (8 * n)) e ∙ take_at a b (8 * n) la in
    let bd : bits (drop n t) ≡ b = sym (bits-drop n t (omega arith)) ∙ ap (drop (8 * n)) e ∙ drop_at a b (8 * n) la in
    sym (take-append-drop n t)
    ∙ ap₂ (λ x y. x ++ y) (sym (bytes-bits (take n t) (Bytes-take n t h)) ∙ ap₂ bytes lt bt) (sym (bytes-bits (drop n t) (Bytes-drop n t h)) ∙ ap₂ bytes ld bd)

-- the first n bytes anew, the others as they were
pub written-part : (n : ℕ) (a : List Bool) (s t : List ℕ) → n ≤ length s → length t ≡ length s → Bytes s → Bytes t → length a ≡ 8 * n
    → bits t ≡ a ++ drop (8 * n) (bits s) → t ≡ bytes n a ++ drop n s
written-part n a s t h e hs ht la p =
    let m = length s - n in
    let ld : m ≡ length (drop n s) = sym (length-drop n s) in
    bytes-parts t n m a (bits (drop n s)) ht (omega arith) la (p ∙ ap (a ++◌) (bits-drop n s h))
    ∙ ap (bytes n a ++◌) (ap (λ k. bytes k (bits (drop n s))) ld ∙ bytes-bits (drop n s) (Bytes-drop n s hs))
