-- A header's bytes, part after part. Assumes nothing.
use mathlib.Core.Path.{◌≡◌, sym, ap, ap₂, ◌∙◌}
use mathlib.Core.Bool.{true, cond}
use mathlib.Core.List.{List, [], ◌++◌, append-nil, append_assoc}
use Prim.Native.Nat.{ℕ, ◌*◌}
use native.Mathlib.Omega.{arith}
use lib.Dec.{eqb}
use lib.ListN.{length, take, drop, length-append, drop_of_length-le}
use lib.Seq.{take_at, drop_at, take_all, take-add, length-take-le}
use borrow.Author.Tests.{eq-eqb, ne_eqb}
use Rattle.bits.specs.Bits.{bits_of, bits, bytes, Bytes}
use Rattle.bits.specs.Field.{within, put_of}
use Rattle.bits.specs.Segment.{pack_segments}
use Rattle.bits.proofs.Bits.{length-bits_of, length-bits, length-bytes, bytes-bits, bits-take}
use Rattle.bits.proofs.Field.{bits-put_of}
use Rattle.crc.specs.Crc.{crc32, crc32_of}
use Rattle.crc.proofs.Crc.{crc32-bits}
use Rattle.header.specs.Layout.{front_layout, extension_layout}
use Rattle.header.specs.Fields.{front_fields, extension_fields}
use Rattle.header.specs.Header.{record_refusal, sealed, header_of, write_number, write_of}
use Rattle.header.specs.declared.Header.{Header}
use Rattle.header.proofs.Sealed.{Bytes-take}
use Rattle.header.proofs.Parts.{bytes-parts}

-- ---- the CRC

crc-put : (h t : List ℕ) (crc : ℕ) → length h ≡ 188 → length t ≡ length h → Bytes h → Bytes t
    → crc ≡ crc32_of (bits (take 180 (drop 4 h))) → t ≡ put_of h 1472 32 crc → t ≡ sealed (take 184 h)
unfolding sealed
crc-put h t crc l lt bh bt ec e =
    let s = take 184 h in
    let w : within (length h) 1472 32 ≡ true = ap (λ n. within n 1472 32) l in
    let ls : length s ≡ 184 = length-take-le 184 h (omega arith) in
    let covered : take 180 (drop 4 h) ≡ drop 4 s =
    sym (ap (drop 4) (take-add 4 180 h) ∙ drop_at (take 4 h) (take 180 (drop 4 h)) 4 (length-take-le 4 h (omega arith))) in
    let last : take 32 (bits_of 32 crc) ≡ crc32 (bits (drop 4 s)) =
    take_all 32 (bits_of 32 crc) (rw length-bits_of (omega arith)) ∙ ap (bits_of 32) (ec ∙ ap (λ x. crc32_of (bits x)) covered) ∙ crc32-bits (bits (drop 4 s)) in
    let none : drop 1504 (bits h) ≡ [] = drop_of_length-le (bits h) {i = 1504} (omega (arith, length-bits h)) in
    let b : bits t ≡ bits s ++ crc32 (bits (drop 4 s)) =
    ap bits e ∙ bits-put_of h 1472 32 crc w ∙ ap₂ (λ x y. (x ++ y) ++ drop 1504 (bits h)) (bits-take 184 h (omega arith)) last
    ∙ ap ((bits s ++ crc32 (bits (drop 4 s))) ++◌) none ∙ append-nil (bits s ++ crc32 (bits (drop 4 s))) in
    bytes-parts t 184 4 (bits s) (crc32 (bits (drop 4 s))) bt (lt ∙ l) (length-bits s ∙ ap (8 *◌) ls) b
    ∙ ap (◌++ bytes 4 (crc32 (bits (drop 4 s)))) (ap (λ n. bytes n (bits s)) (sym ls) ∙ bytes-bits s (Bytes-take 184 h bh))

-- the CRC of the m bytes from byte a on, put at bit k
pub crc-put-at : (h t : List ℕ) (crc : ℕ) {a m k : ℕ} → length h ≡ 188 → length t ≡ length h → Bytes h → Bytes t
    → crc ≡ crc32_of (bits (take m (drop a h))) → t ≡ put_of h k 32 crc → a ≡ 4 → m ≡ 180 → k ≡ 1472 → t ≡ sealed (take 184 h)
crc-put-at h t crc l lt bh bt ec e ea em ek =
    crc-put h t crc l lt bh bt (ec ∙ ap₂ (λ (i j : ℕ). crc32_of (bits (take i (drop j h)))) em ea) (e ∙ ap (λ (i : ℕ). put_of h i 32 crc) ek)

-- ---- front, extension and CRC

pub header-written : (r : Header) (s v₁ v₂ v₃ : List ℕ) → v₁ ≡ bytes 99 (pack_segments front_layout (front_fields r.front)) ++ drop 99 s
    → v₂ ≡ take 99 v₁ ++ (bytes 85 (pack_segments extension_layout (extension_fields r.extension)) ++ drop 85 (drop 99 v₁))
    → v₃ ≡ sealed (take 184 v₂) → v₃ ≡ header_of r
unfolding header_of
header-written r s v₁ v₂ v₃ e₁ e₂ e₃ =
    let p = bytes 99 (pack_segments front_layout (front_fields r.front)) in
    let q = bytes 85 (pack_segments extension_layout (extension_fields r.extension)) in
    let rest = drop 85 (drop 99 v₁) in
    let lp : length p ≡ 99 = length-bytes 99 (pack_segments front_layout (front_fields r.front)) in
    let lq : length q ≡ 85 = length-bytes 85 (pack_segments extension_layout (extension_fields r.extension)) in
    let f : take 99 v₁ ≡ p = ap (take 99) e₁ ∙ take_at p (drop 99 s) 99 lp in
    let w : v₂ ≡ (p ++ q) ++ rest = e₂ ∙ ap (◌++ (q ++ rest)) f ∙ sym (append_assoc p q rest) in
    e₃ ∙ ap sealed (ap (take 184) w ∙ take_at (p ++ q) rest 184 (length-append p q ∙ omega arith))

-- ---- what `write` answers, and the buffer

pub short-number : (r : Header) (n : ℕ) → (n ≡ 188 → ⊥) → 1 ≡ write_number r n
unfolding write_number
short-number r n h = sym (ap (λ t. cond t (record_refusal r) 1) (ne_eqb n 188 h))

pub record-number : (r : Header) (n k : ℕ) → n ≡ 188 → k ≡ record_refusal r → k ≡ write_number r n
unfolding write_number
record-number r n k h e = e ∙ sym (ap (λ t. cond t (record_refusal r) 1) (eq-eqb n 188 h))

pub buffer-kept : (r : Header) (s : List ℕ) (k : ℕ) → k ≡ write_number r (length s) → (k ≡ 0 → ⊥) → s ≡ write_of r s
unfolding write_of
buffer-kept r s k e z = sym (ap (λ t. cond t (header_of r) s) (ap (λ n. eqb n 0) (sym e) ∙ ne_eqb k 0 z))

pub buffer-written : (r : Header) (s t : List ℕ) (k : ℕ) → k ≡ write_number r (length s) → k ≡ 0 → t ≡ header_of r → t ≡ write_of r s
unfolding write_of
buffer-written r s t k e z f = f ∙ sym (ap (λ t. cond t (header_of r) s) (ap (λ n. eqb n 0) (sym e) ∙ eq-eqb k 0 z))
