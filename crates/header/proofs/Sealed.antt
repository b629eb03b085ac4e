-- 99 bytes and 85 bytes with their CRC after them: their length, their parts, and that 188 bytes whose CRC comes out zero are of this kind. Assumes nothing.
use mathlib.Core.Path.{◌≡◌, sym, ap, ap₂, ◌∙◌}
use mathlib.Core.List.{List, [], ◌∷◌, ◌++◌, append_assoc}
use Prim.Native.Nat.{ℕ, zero, suc, ◌+◌}
use native.Mathlib.Omega.{arith}
use lib.ListN.{length, take, drop, length-append, length-drop, take-append-drop}
use lib.Seq.{take_at, drop_at, take-add, get_or-drop, drop-append-le, length-take-le}
use Rattle.bits.specs.Bits.{bits, bytes, Bytes}
use Rattle.bits.proofs.Bits.{length-bytes}
use Rattle.crc.specs.Crc.{crc32, crc32_of}
use Rattle.crc.proofs.Crc.{crc32-own-bytes, crc32-only-bytes}
use Rattle.header.specs.Header.{sealed}

pub Bytes-take : (n : ℕ) (s : List ℕ) → Bytes s → Bytes (take n s)
Bytes-take zero s h i = omega arith
Bytes-take (suc n) [] h i = omega arith
Bytes-take (suc n) (x ∷ s) h zero = h 0
Bytes-take (suc n) (x ∷ s) h (suc i) = Bytes-take n s (λ j. h (suc j)) i

pub Bytes-drop : (n : ℕ) (s : List ℕ) → Bytes s → Bytes (drop n s)
Bytes-drop n s h i = rw (get_or-drop n s i 0) (h (n + i))

module _ (a b : List ℕ) (la : length a ≡ 99) (lb : length b ≡ 85) where
  length-parts : length (a ++ b) ≡ 184
  length-parts = length-append a b ∙ ap₂ ◌+◌ la lb

  pub length-sealed : length (sealed (a ++ b)) ≡ 188
  unfolding sealed
  length-sealed =
      let c = bytes 4 (crc32 (bits (drop 4 (a ++ b)))) in
      length-append (a ++ b) c ∙ ap₂ ◌+◌ length-parts (length-bytes 4 (crc32 (bits (drop 4 (a ++ b)))))

  pub sealed-front : take 99 (sealed (a ++ b)) ≡ a
  unfolding sealed
  sealed-front =
      let c = bytes 4 (crc32 (bits (drop 4 (a ++ b)))) in
      ap (take 99) (append_assoc a b c) ∙ take_at a (b ++ c) 99 la

  pub sealed-extension : take 85 (drop 99 (sealed (a ++ b))) ≡ b
  unfolding sealed
  sealed-extension =
      let c = bytes 4 (crc32 (bits (drop 4 (a ++ b)))) in
      ap (λ (l : List ℕ). take 85 (drop 99 l)) (append_assoc a b c)
      ∙ ap (take 85) (drop_at a (b ++ c) 99 la) ∙ take_at b c 85 lb

  pub sealed-crc : crc32_of (bits (drop 4 (sealed (a ++ b)))) ≡ 0
  unfolding sealed
  sealed-crc =
      let s = a ++ b in
      let l = length-parts in
      ap (λ (x : List ℕ). crc32_of (bits x)) (drop-append-le 4 s (bytes 4 (crc32 (bits (drop 4 s)))) (omega arith))
      ∙ crc32-own-bytes (drop 4 s)

-- only the CRC's own four bytes let it come out zero
pub sealed-only : (h : List ℕ) → Bytes h → length h ≡ 188 → crc32_of (bits (drop 4 h)) ≡ 0 → sealed (take 99 h ++ take 85 (drop 99 h)) ≡ h
unfolding sealed
sealed-only h b l e =
    let s = take 184 h in
    let x = drop 184 h in
    let ls : length s ≡ 184 = length-take-le 184 h (omega arith) in
    let d : drop 4 h ≡ drop 4 s ++ x = ap (drop 4) (sym (take-append-drop 184 h)) ∙ drop-append-le 4 s x (omega arith) in
    let c : x ≡ bytes 4 (crc32 (bits (drop 4 s))) =
    crc32-only-bytes (drop 4 s) x (length-drop 184 h ∙ omega arith) (Bytes-drop 184 h b) (ap (λ (y : List ℕ). crc32_of (bits y)) (sym d) ∙ e) in
    ap sealed (sym (take-add 99 85 h)) ∙ ap (s ++◌) (sym c) ∙ take-append-drop 184 h
