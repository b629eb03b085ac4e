-- Headers that are accepted and headers that are legal: what that comes to, and that reading and writing undo each other. Assumes nothing.
use mathlib.Core.Path.{◌≡◌, refl, sym, ap, ap₂, ◌∙◌}
use mathlib.Core.Bool.{Bool, true, false, not, or-false, and-eq-true_iff}
use mathlib.Core.List.{List, ◌++◌}
use Prim.Native.Nat.{ℕ, ◌*◌, ◌/◌, ◌^◌}
use native.Mathlib.Omega.{arith}
use lib.ListN.{length, take, drop, length-drop}
use lib.Seq.{length-take-le}
use borrow.Author.Tests.{eq-eqb, eqb-true, not-false}
use Rattle.bits.specs.Bits.{bits, bytes, Bytes}
use Rattle.bits.specs.Layout.{sum, Fit, fitb}
use Rattle.bits.specs.declared.Segment.{Segment}
use Rattle.bits.specs.Segment.{widths, free_widths, pack_segments, unpack_segments, fixed_bits_hold}
use Rattle.bits.specs.Refusal.{first_refusal}
use Rattle.bits.proofs.Bits.{length-bytes, bits-bytes}
use Rattle.bits.proofs.Layouts.{length-fit, fitb-fit, fit-fitb}
use Rattle.bits.proofs.Segments.{length-pack_segments, unpack-bytes-pack_segments, bytes-pack-unpack_segments, fixed-pack_segments, fit-unpack_segments}
use Rattle.bits.proofs.Refusal.{refusal-none, none-refusal, neither}
use Rattle.crc.specs.Crc.{crc32_of}
use Rattle.header.specs.Layout.{front_layout, extension_layout}
use Rattle.header.specs.Fields.{front_fields, front_of, extension_fields, extension_of, Sized}
use Rattle.gf2.specs.Polynomial.{member}
use Rattle.header.specs.Tests.{too_wide, crc_wrong, state_wrong, slot_bit_wrong, extension_wrong}
use Rattle.header.specs.Header.{front_in, extension_in, header_in, header_tests, header_refusal, sealed, header_of, record_tests, record_refusal, Legal}
use Rattle.header.specs.declared.Front.{Front}
use Rattle.header.specs.declared.Extension.{Extension}
use Rattle.header.specs.declared.Header.{Header}
use Rattle.header.proofs.Fields.{front-bits, extension-bits, front-count, extension-count, fields-front, fields-extension, front-fields, extension-fields}
use Rattle.header.proofs.Sealed.{Bytes-take, Bytes-drop, length-sealed, sealed-front, sealed-extension, sealed-crc, sealed-only}

-- ---- accepted headers

-- a header that no refusal is given to
pub record Accepted (h : List ℕ) : Type 0 where
  pub size : length h ≡ 188
  pub packet-sync : (front_in h).packet / 2 ^ 24 ≡ 0x47
  pub crc : crc32_of (bits (drop 4 h)) ≡ 0
  pub form : (front_in h).form ≡ 1
  pub slot-bit : fixed_bits_hold front_layout (bits (take 99 h)) ≡ true
  pub states : member 3 (front_in h).states ≡ false
  pub ones : fixed_bits_hold extension_layout (bits (take 85 (drop 99 h))) ≡ true

pub accepted : (h : List ℕ) → header_refusal h ≡ 0 → Accepted h
unfolding header_refusal crc_wrong slot_bit_wrong extension_wrong
accepted h e =
    let t = refusal-none (header_tests h) refl e in
    let bits15 = neither _ _ t.1.1.1.1.0 in
    let rest15 = neither _ _ bits15.1 in
    record {
      size = eqb-true (length h) 188 (not-false _ t.0);
      packet-sync = eqb-true ((front_in h).packet / 2 ^ 24) 0x47 (not-false _ t.1.0);
      crc = eqb-true (crc32_of (bits (drop 4 h))) 0 (not-false _ t.1.1.0);
      form = eqb-true (front_in h).form 1 (not-false _ t.1.1.1.0);
      slot-bit = not-false _ bits15.0;
      states = rest15.0;
      ones = not-false _ rest15.1;
    }

pub accepts : (h : List ℕ) → Accepted h → header_refusal h ≡ 0
unfolding header_refusal crc_wrong slot_bit_wrong extension_wrong
accepts h a =
    none-refusal (header_tests h) (
      ap not (eq-eqb (length h) 188 a.size),
      (
        ap not (eq-eqb ((front_in h).packet / 2 ^ 24) 0x47 a.packet-sync),
        (
          ap not (eq-eqb (crc32_of (bits (drop 4 h))) 0 a.crc),
          (ap not (eq-eqb (front_in h).form 1 a.form), (rw (a.slot-bit, a.states, a.ones), tt)),
        ),
      ),
    )

-- ---- headers whose fields fit

record Fits (r : Header) : Type 0 where
  front : Fit (free_widths front_layout) (front_fields r.front)
  extension : Fit (free_widths extension_layout) (extension_fields r.extension)

fits : (r : Header) → too_wide r ≡ false → Fits r
unfolding too_wide
fits r e =
    let v = front_fields r.front in
    let w = extension_fields r.extension in
    let t = (and-eq-true_iff (fitb (free_widths front_layout) v) (fitb (free_widths extension_layout) w)).0 (not-false _ e) in
    record { front = fitb-fit (free_widths front_layout) v t.0; extension = fitb-fit (free_widths extension_layout) w t.1 }

pub legal-fits : (r : Header) → Legal r → too_wide r ≡ false
unfolding record_refusal
legal-fits r e = (refusal-none (record_tests r) refl e).0

-- ---- one part of a header, 99 or 85 bytes

-- bytes with the fixed bits, read and written
same_bytes : (l : List Segment) (n : ℕ) (s : List ℕ) → sum (widths l) ≡ 8 * n → length s ≡ n → Bytes s → fixed_bits_hold l (bits s) ≡ true
    → bytes n (pack_segments l (unpack_segments l (bits s))) ≡ s
same_bytes l n s e k b f =
    ap (λ (m : ℕ). bytes m (pack_segments l (unpack_segments l (bits s)))) (sym k) ∙ bytes-pack-unpack_segments l s (e ∙ ap (8 *◌) (sym k)) b f

-- what is written has the fixed bits
written-fixed : (l : List Segment) (n : ℕ) (vs : List ℕ) → sum (widths l) ≡ 8 * n → Fit (free_widths l) vs
    → fixed_bits_hold l (bits (bytes n (pack_segments l vs))) ≡ true
written-fixed l n vs e f =
    ap (fixed_bits_hold l) (bits-bytes n (pack_segments l vs) (length-pack_segments l vs ∙ e)) ∙ fixed-pack_segments l vs f

-- as many values are read as there are fields
count : (l : List Segment) (bs : List Bool) (n : ℕ) → length (free_widths l) ≡ n → length (unpack_segments l bs) ≡ n
count l bs n e = length-fit (free_widths l) (unpack_segments l bs) (fit-unpack_segments l bs) ∙ e

-- ---- the header of a record

module _ (r : Header) where
  front_bytes : List ℕ
  front_bytes = bytes 99 (pack_segments front_layout (front_fields r.front))

  extension_bytes : List ℕ
  extension_bytes = bytes 85 (pack_segments extension_layout (extension_fields r.extension))

  length_front : length front_bytes ≡ 99
  unfolding front_bytes
  length_front = length-bytes 99 (pack_segments front_layout (front_fields r.front))

  length-extension : length extension_bytes ≡ 85
  unfolding extension_bytes
  length-extension = length-bytes 85 (pack_segments extension_layout (extension_fields r.extension))

  pub length-header : length (header_of r) ≡ 188
  unfolding header_of front_bytes extension_bytes
  length-header = length-sealed front_bytes extension_bytes length_front length-extension

  pub crc-header : crc32_of (bits (drop 4 (header_of r))) ≡ 0
  unfolding header_of front_bytes extension_bytes
  crc-header = sealed-crc front_bytes extension_bytes length_front length-extension

  -- its first 99 bytes, and the 85 after them
  front-part : take 99 (header_of r) ≡ front_bytes
  unfolding header_of front_bytes extension_bytes
  front-part = sealed-front front_bytes extension_bytes length_front length-extension

  extension-part : take 85 (drop 99 (header_of r)) ≡ extension_bytes
  unfolding header_of front_bytes extension_bytes
  extension-part = sealed-extension front_bytes extension_bytes length_front length-extension

  module _ (sizes : Sized r) (narrow : too_wide r ≡ false) where
    front_read : front_in (header_of r) ≡ r.front
    unfolding front_in front_bytes
    front_read =
        ap (λ (x : List ℕ). front_of (unpack_segments front_layout (bits x))) front-part
        ∙ ap front_of (unpack-bytes-pack_segments front_layout (front_fields r.front) 99 front-bits (fits r narrow).front)
        ∙ front-fields r sizes

    extension-read : extension_in (header_of r) ≡ r.extension
    unfolding extension_in extension_bytes
    extension-read =
        ap (λ (x : List ℕ). extension_of (unpack_segments extension_layout (bits x))) extension-part
        ∙ ap extension_of (unpack-bytes-pack_segments extension_layout (extension_fields r.extension) 85 extension-bits (fits r narrow).extension)
        ∙ extension-fields r sizes

    pub header_read : header_in (header_of r) ≡ r
    header_read = ap₂ (λ (f : Front) (e : Extension). record { front = f; extension = e }) front_read extension-read

    slot-bit-written : slot_bit_wrong (header_of r) ≡ false
    unfolding slot_bit_wrong front_bytes
    slot-bit-written =
        ap (λ (x : List ℕ). not (fixed_bits_hold front_layout (bits x))) front-part
        ∙ ap not (written-fixed front_layout 99 (front_fields r.front) front-bits (fits r narrow).front)

    ones-written : extension_wrong (header_of r) ≡ false
    unfolding extension_wrong extension_bytes
    ones-written =
        ap (λ (x : List ℕ). not (fixed_bits_hold extension_layout (bits x))) extension-part
        ∙ ap not (written-fixed extension_layout 85 (extension_fields r.extension) extension-bits (fits r narrow).extension)

    -- the reader finds in it what the writer finds in the record
    pub same-refusal : header_refusal (header_of r) ≡ record_refusal r
    unfolding header_refusal record_refusal first_refusal crc_wrong
    same-refusal =
        rw (length-header, crc-header, slot-bit-written, ones-written, front_read, or-false (state_wrong r.front), narrow)

-- ---- the record of an accepted header

module _ (h : List ℕ) where
  front-values : front_fields (front_in h) ≡ unpack_segments front_layout (bits (take 99 h))
  unfolding front_in
  front-values = let v = unpack_segments front_layout (bits (take 99 h)) in fields-front v (count front_layout (bits (take 99 h)) 119 front-count)

  extension-values : extension_fields (extension_in h) ≡ unpack_segments extension_layout (bits (take 85 (drop 99 h)))
  unfolding extension_in
  extension-values =
      let bs = bits (take 85 (drop 99 h)) in fields-extension (unpack_segments extension_layout bs) (count extension_layout bs 26 extension-count)

  module _ (a : Accepted h) where
    pub read-legal : Legal (header_in h)
    unfolding record_refusal too_wide
    read-legal =
        let v = fit-fitb (free_widths front_layout) (front_fields (front_in h)) (rw front-values (fit-unpack_segments front_layout (bits (take 99 h)))) in
        let w =
        fit-fitb (free_widths extension_layout) (extension_fields (extension_in h))
        (rw extension-values (fit-unpack_segments extension_layout (bits (take 85 (drop 99 h))))) in
        none-refusal (record_tests (header_in h)) (
          rw (v, w),
          (ap not (eq-eqb ((front_in h).packet / 2 ^ 24) 0x47 a.packet-sync), (ap not (eq-eqb (front_in h).form 1 a.form), (a.states, tt))),
        )

    pub read-written : Bytes h → header_of (header_in h) ≡ h
    unfolding header_of
    read-written b =
        let x = take 99 h in
        let y = take 85 (drop 99 h) in
        let size = a.size in
        let lx : length x ≡ 99 = length-take-le 99 h (omega arith) in
        let ly : length y ≡ 85 = length-take-le 85 (drop 99 h) (omega (arith, length-drop 99 h)) in
        ap₂ (λ (v w : List ℕ). sealed (bytes 99 (pack_segments front_layout v) ++ bytes 85 (pack_segments extension_layout w))) front-values extension-values
        ∙ ap₂ (λ (v w : List ℕ). sealed (v ++ w))
        (same_bytes front_layout 99 x front-bits lx (Bytes-take 99 h b) a.slot-bit)
        (same_bytes extension_layout 85 y extension-bits ly (Bytes-take 85 (drop 99 h) (Bytes-drop 99 h b)) a.ones)
        ∙ sealed-only h b a.size a.crc
