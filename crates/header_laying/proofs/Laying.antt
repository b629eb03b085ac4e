-- A header with other AC bits: what stays and what changes. Assumes nothing.
use mathlib.Core.Path.{◌≡◌, refl, sym, ap, ap₂, ◌∙◌}
use mathlib.Core.Bool.{Bool, true, ◌&&◌}
use mathlib.Core.List.{List, [], ◌∷◌, ◌++◌}
use Prim.Native.Nat.{ℕ, ◌+◌, ◌*◌, ◌/◌, ◌^◌}
use native.Mathlib.Omega.{arith}
use lib.ListN.{length, take, drop, replicate, length-append, length-drop, take-append-drop}
use lib.Seq.{take_at, drop_at, take_all, length-take-le}
use Rattle.bits.specs.Bits.{bits, bytes, Bytes}
use Rattle.bits.specs.Layout.{sum, unpack}
use Rattle.bits.specs.declared.Segment.{Segment}
use Rattle.bits.specs.declared.Segment.TheVariants.{Field, Ones}
use Rattle.bits.specs.Segment.{widths, unpack_segments, fixed_hold, fixed_bits_hold}
use Rattle.bits.proofs.Bits.{length-bits, length-bytes, bits-bytes, bytes-bits, bits-take, bits-drop}
use Rattle.bits.proofs.Segments.{fixed_bits_hold-append}
use Rattle.crc.specs.Crc.{crc32_of}
use Rattle.frame.proofs.Parts.{inner-part}
use Rattle.header.specs.Layout.{front_layout, extension_layout}
use Rattle.header.specs.Fields.{front_of}
use Rattle.gf2.specs.Polynomial.{member}
use Rattle.header.specs.Header.{front_in, sealed}
use Rattle.header_laying.specs.Laying.{ac_bits, with_ac}
use Rattle.header_laying.specs.Promises.{SameOutsideAc}
use Rattle.header.specs.declared.Front.{Front}
use Rattle.header.proofs.Sealed.{Bytes-take, Bytes-drop, length-sealed, sealed-front, sealed-extension, sealed-crc, sealed-only}
use Rattle.header.proofs.Headers.{Accepted}

-- ---- the extension: the 204 AC bits, and 476 bits fixed at 1

ac_layout : List Segment
ac_layout = replicate 25 (Field 8) ++ Field 4 ∷ []

ones_layout : List Segment
ones_layout = Ones 4 ∷ replicate 59 (Ones 8)

extension-parts : extension_layout ≡ ac_layout ++ ones_layout
unfolding extension_layout ac_layout ones_layout
extension-parts = refl

ac-width : sum (widths ac_layout) ≡ 204
unfolding ac_layout widths sum
ac-width = refl

ac-free : (bs : List Bool) → fixed_bits_hold ac_layout bs ≡ true
unfolding ac_layout widths unpack fixed_hold
ac-free bs = refl

-- only the bits after the AC bits are tested
ones-test : (bs : List Bool) → fixed_bits_hold extension_layout bs ≡ fixed_bits_hold ones_layout (drop 204 bs)
ones-test bs =
    ap (λ (l : List Segment). fixed_bits_hold l bs) extension-parts
    ∙ fixed_bits_hold-append ac_layout ones_layout bs
    ∙ ap₂ (λ (t : Bool) (n : ℕ). t && fixed_bits_hold ones_layout (drop n bs)) (ac-free bs) ac-width

-- ---- the bits after the AC bits

-- the extension's bits, and the same bits in the whole header
after_ac : List ℕ → List Bool
after_ac h = drop 204 (bits (take 85 (drop 99 h)))

module _ (h : List ℕ) (size : length h ≡ 188) where
  length-extension : length (take 85 (drop 99 h)) ≡ 85
  length-extension = length-take-le 85 (drop 99 h) (omega (arith, length-drop 99 h))

  length-extension-bits : length (bits (take 85 (drop 99 h))) ≡ 680
  length-extension-bits = length-bits (take 85 (drop 99 h)) ∙ ap (8 *◌) length-extension

  length-after_ac : length (after_ac h) ≡ 476
  unfolding after_ac
  length-after_ac = length-drop 204 (bits (take 85 (drop 99 h))) ∙ omega (arith, length-extension-bits)

  after_ac-place : take 476 (drop 996 (bits h)) ≡ after_ac h
  unfolding after_ac
  after_ac-place =
      let b = bits (take 85 (drop 99 h)) in
      let e : take 680 (drop 792 (bits h)) ≡ b =
      ap (take 680) (bits-drop 99 h (omega arith)) ∙ bits-take 85 (drop 99 h) (omega (arith, length-drop 99 h)) in
      sym (inner-part 476 204 680 792 (bits h) (omega arith))
      ∙ ap (λ (l : List Bool). take 476 (drop 204 l)) e
      ∙ take_all 476 (drop 204 b) (omega (arith, length-drop 204 b, length-extension-bits))

-- ---- a sealed header by its parts

record Parts (h a : List ℕ) (b : List Bool) : Type 0 where
  size : length h ≡ 188
  front : take 99 h ≡ a
  extension : bits (take 85 (drop 99 h)) ≡ b
  crc : crc32_of (bits (drop 4 h)) ≡ 0

sealed-parts : (a : List ℕ) (b : List Bool) → length a ≡ 99 → length b ≡ 680 → Parts (sealed (a ++ bytes 85 b)) a b
sealed-parts a b la lb =
    let lc = length-bytes 85 b in
    record {
      size = length-sealed a (bytes 85 b) la lc;
      front = sealed-front a (bytes 85 b) la lc;
      extension = ap bits (sealed-extension a (bytes 85 b) la lc) ∙ bits-bytes 85 b lb;
      crc = sealed-crc a (bytes 85 b) la lc;
    }

-- ---- other AC bits

module _ (h : List ℕ) (bs : List Bool) (size : length h ≡ 188) (lb : length bs ≡ 204) where
  length_front : length (take 99 h) ≡ 99
  length_front = length-take-le 99 h (omega arith)

  -- the extension's new bits are whole bytes
  length-new : length (bs ++ after_ac h) ≡ 680
  length-new = length-append bs (after_ac h) ∙ ap₂ ◌+◌ lb (length-after_ac h size)

  -- the header with other bits: its length, its parts and its CRC
  with_ac-parts : Parts (with_ac h bs) (take 99 h) (bs ++ after_ac h)
  unfolding with_ac after_ac
  with_ac-parts = sealed-parts (take 99 h) (bs ++ after_ac h) length_front length-new

  length-with_ac : length (with_ac h bs) ≡ 188
  length-with_ac = with_ac-parts.size

  with_ac-front : take 99 (with_ac h bs) ≡ take 99 h
  with_ac-front = with_ac-parts.front

  with_ac-extension : bits (take 85 (drop 99 (with_ac h bs))) ≡ bs ++ after_ac h
  with_ac-extension = with_ac-parts.extension

  pub with_ac-bits : ac_bits (with_ac h bs) ≡ bs
  with_ac-bits = ap (take 204) with_ac-extension ∙ take_at bs (after_ac h) 204 lb

  with_ac-after : after_ac (with_ac h bs) ≡ after_ac h
  unfolding after_ac
  with_ac-after = ap (drop 204) with_ac-extension ∙ drop_at bs (after_ac h) 204 lb

  pub with_ac-front_in : front_in (with_ac h bs) ≡ front_in h
  unfolding front_in
  with_ac-front_in = ap (λ (x : List ℕ). front_of (unpack_segments front_layout (bits x))) with_ac-front

  pub with_ac-outside : SameOutsideAc (with_ac h bs) h
  with_ac-outside =
      record {
        size = length-with_ac ∙ sym size;
        front = with_ac-front;
        rest = after_ac-place (with_ac h bs) length-with_ac ∙ with_ac-after ∙ sym (after_ac-place h size);
      }

  -- the second bits replace the first
  pub with_ac-again : (cs : List Bool) → with_ac (with_ac h bs) cs ≡ with_ac h cs
  unfolding with_ac after_ac
  with_ac-again cs = ap₂ (λ (x : List ℕ) (t : List Bool). sealed (x ++ bytes 85 (cs ++ t))) with_ac-front with_ac-after

pub with_ac-accepted : (h : List ℕ) (bs : List Bool) → length bs ≡ 204 → Accepted h → Accepted (with_ac h bs)
unfolding after_ac
with_ac-accepted h bs lb a =
    let size = a.size in
    let front = with_ac-front_in h bs size lb in
    let k = with_ac h bs in
    record {
      size = length-with_ac h bs size lb;
      packet-sync = ap (λ (f : Front). f.packet / 2 ^ 24) front ∙ a.packet-sync;
      crc = (with_ac-parts h bs size lb).crc;
      form = ap (λ (f : Front). f.form) front ∙ a.form;
      slot-bit = ap (λ (x : List ℕ). fixed_bits_hold front_layout (bits x)) (with_ac-front h bs size lb) ∙ a.slot-bit;
      states = ap (λ (f : Front). member 3 f.states) front ∙ a.states;
      ones =
          ones-test (bits (take 85 (drop 99 k)))
          ∙ ap (fixed_bits_hold ones_layout) (with_ac-after h bs size lb)
          ∙ sym (ones-test (bits (take 85 (drop 99 h)))) ∙ a.ones;
    }

-- a header with its own AC bits
pub with_ac-own : (h : List ℕ) → Bytes h → Accepted h → with_ac h (ac_bits h) ≡ h
unfolding with_ac
with_ac-own h b a =
    let y = take 85 (drop 99 h) in
    ap (λ (l : List Bool). sealed (take 99 h ++ bytes 85 l)) (take-append-drop 204 (bits y))
    ∙ ap (λ (n : ℕ). sealed (take 99 h ++ bytes n (bits y))) (sym (length-extension h a.size))
    ∙ ap (λ (x : List ℕ). sealed (take 99 h ++ x)) (bytes-bits y (Bytes-take 85 (drop 99 h) (Bytes-drop 99 h b)))
    ∙ sealed-only h b a.size a.crc
