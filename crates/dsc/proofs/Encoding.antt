-- What the encoder leaves in a frame: the code word of its message, at its place. Assumes nothing.
use mathlib.Core.Path.{◌≡◌, refl, sym, ap, ap₂, ◌∙◌, subst}
use mathlib.Core.Bool.{Bool, true, cond}
use mathlib.Core.Logic.{◌≢◌}
use mathlib.Core.List.{List, ◌++◌, append_assoc}
use Prim.Native.Nat.{ℕ, ◌+◌, ◌*◌}
use native.Mathlib.Omega.{arith}
use lib.ListN.{length, take, drop, length-append, length-drop, take-append-drop}
use lib.Seq.{paste, take_all, take_at, take-add, take-take, drop_at, drop-append-le, length-take-le}
use borrow.Author.Tests.{eq-eqb, ne_eqb}
use Rattle.bits.specs.Bits.{value, bits_of, bits, bytes}
use Rattle.bits.specs.Field.{put_bits, within, put_of}
use Rattle.bits.proofs.Bits.{bits_of-value, length-bits, length-bytes, bits-bytes}
use Rattle.bits.proofs.Field.{within-room, bits-put_of, length-put_of, paste-add}
use Rattle.dsc.specs.Code.{CodeWord, parity_of}
use Rattle.dsc.specs.Repair.{protected}
use Rattle.dsc.specs.Encoding.{message_of, encode_of}
use Rattle.dsc.proofs.Word.{length-word, length-parity, parity-word, parity-only}
use Rattle.dsc.proofs.Answers.{length-protected}

pub encode-short : (f : List ℕ) → length f ≢ 26 → f ≡ encode_of f
unfolding encode_of
encode-short f h = rw (ne_eqb (length f) 26 h)

length-message : (f : List ℕ) → length f ≡ 26 → length (message_of f) ≡ 105
unfolding message_of
length-message f h = length-take-le 105 (protected f) (omega (arith, length-protected f h))

-- the bits that a number stands for, put again
number-bits : (n : ℕ) (b : List Bool) (v : ℕ) → length b ≡ n → v ≡ value b → bits_of n v ≡ b
number-bits n b v l e = ap₂ bits_of (sym l) e ∙ bits_of-value b

module _ (f : List ℕ) (h : length f ≡ 26) where
  frame-bits : length (bits f) ≡ 208
  frame-bits = length-bits f ∙ ap (8 *◌) h

  encode-bytes : encode_of f ≡ bytes 26 (take 122 (bits f) ++ (parity_of (message_of f) ++ drop 204 (bits f)))
  unfolding encode_of
  encode-bytes = rw (eq-eqb (length f) 26 h)

  -- 82 bits put as two numbers of 41
  pub put-halves : (p : List Bool) (high low : ℕ) → p ≡ parity_of (message_of f) → high ≡ value (take 41 (drop 0 p)) → low ≡ value (take 41 (drop 41 p))
      → put_of (put_of f 122 41 high) 163 41 low ≡ encode_of f
  put-halves p high low e eh el =
      let b = bits f in
      let s = put_of f 122 41 high in
      let lp : length p ≡ 82 = ap length e ∙ length-parity (message_of f) (length-message f h) in
      let ls : length s ≡ 26 = length-put_of f 122 41 high ∙ h in
      let wf : within (length f) 122 41 ≡ true = within-room (length f) 122 41 (omega arith) (omega arith) in
      let ws : within (length s) 163 41 ≡ true = within-room (length s) 163 41 (omega arith) (omega arith) in
      let x : bits_of 41 high ≡ take 41 p = number-bits 41 (take 41 p) high (length-take-le 41 p (omega arith)) eh in
      let ly : length (take 41 (drop 41 p)) ≡ 41 = length-take-le 41 (drop 41 p) (omega (arith, length-drop 41 p)) in
      let y : bits_of 41 low ≡ take 41 (drop 41 p) = number-bits 41 (take 41 (drop 41 p)) low ly el in
      let first : bits s ≡ paste b 122 p 41 =
      bits-put_of f 122 41 high wf ∙ ap (λ u. paste b 122 u 41) x
      ∙ ap (λ u. (take 122 b ++ u) ++ drop 163 b) (take_all 41 (take 41 p) (omega (arith, length-take-le 41 p (omega arith)))) in
      ap (λ t. cond t (bytes (length s) (put_bits s 163 41 low)) s) ws
      ∙ ap₂ (λ n u. bytes n (paste u 163 (bits_of 41 low) 41)) ls first
      ∙ ap (λ u. bytes 26 (paste (paste b 122 p 41) 163 u 41)) y
      ∙ ap (bytes 26)
      (paste-add b p (take 41 (drop 41 p)) 122 41 41 (omega (arith, frame-bits)) (omega arith) refl ly
      ∙ append_assoc (take 122 b) (take 82 p) (drop 204 b)
      ∙ ap (λ u. take 122 b ++ (u ++ drop 204 b)) (take_all 82 p (omega arith) ∙ e))
      ∙ sym encode-bytes

  -- the protected part is the code word of the message
  pub protected-encoded : protected (encode_of f) ≡ message_of f ++ parity_of (message_of f)
  unfolding protected message_of
  protected-encoded =
      let b = bits f in
      let m = message_of f in
      let p = parity_of m in
      let lm : length m ≡ 105 = length-message f h in
      let lp : length p ≡ 82 = length-parity m lm in
      let front : drop 17 (take 122 b) ≡ m = head in
      let whole : bits (encode_of f) ≡ take 122 b ++ (p ++ drop 204 b) =
      ap bits encode-bytes
      ∙ bits-bytes 26 (take 122 b ++ (p ++ drop 204 b))
      (length-append (take 122 b) (p ++ drop 204 b)
      ∙ omega (arith, length-append p (drop 204 b), length-take-le 122 b (omega (arith, frame-bits)), length-drop 204 b, frame-bits)) in
      ap (λ u. take 187 (drop 17 u)) whole
      ∙ ap (take 187) (drop-append-le 17 (take 122 b) (p ++ drop 204 b) (omega (arith, length-take-le 122 b (omega (arith, frame-bits)))) ∙ ap (◌++ (p ++ drop 204 b)) front ∙ sym (append_assoc m p (drop 204 b)))
      ∙ take_at (m ++ p) (drop 204 b) 187 (length-append m p ∙ ap₂ ◌+◌ lm lp)
    where
      head : drop 17 (take 122 (bits f)) ≡ take 105 (take 187 (drop 17 (bits f)))
      head =
          ap (drop 17) (take-add 17 105 (bits f))
          ∙ drop_at (take 17 (bits f)) (take 105 (drop 17 (bits f))) 17 (length-take-le 17 (bits f) (omega (arith, frame-bits)))
          ∙ sym (take-take 105 187 (drop 17 (bits f)) (omega arith))

  pub length-encoded : length (encode_of f) ≡ 26
  length-encoded = ap length encode-bytes ∙ length-bytes 26 (take 122 (bits f) ++ (parity_of (message_of f) ++ drop 204 (bits f)))

  pub encoded-word : CodeWord (protected (encode_of f))
  encoded-word = subst CodeWord (sym protected-encoded) (parity-word (message_of f) (length-message f h))

  pub encoded-message : message_of (encode_of f) ≡ message_of f
  unfolding message_of
  encoded-message = ap (take 105) protected-encoded ∙ take_at (message_of f) (parity_of (message_of f)) 105 (length-message f h)

  -- no other code word has that message
  pub encoded-only : (w : List Bool) → CodeWord w → take 105 w ≡ message_of f → w ≡ protected (encode_of f)
  encoded-only w k e =
      let lw : length w ≡ 187 = length-word w k in
      let s : w ≡ message_of f ++ drop 105 w = sym (take-append-drop 105 w) ∙ ap (◌++ drop 105 w) e in
      s
      ∙ ap (message_of f ++◌) (parity-only (message_of f) (length-message f h) (drop 105 w) (omega (arith, length-drop 105 w)) (subst CodeWord s k))
      ∙ sym protected-encoded
