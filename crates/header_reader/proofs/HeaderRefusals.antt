-- The tests of a header, met or left in their order. Assumes nothing.
use mathlib.Core.Path.{◌≡◌, sym, ap, ◌∙◌}
use mathlib.Core.Bool.{Bool, true, false, cond, not, ◌||◌, or-true, not-not}
use mathlib.Core.List.{List}
use Prim.Native.Nat.{ℕ, ◌/◌, ◌^◌}
use lib.Dec.{eqb}
use lib.ListN.{length, drop}
use borrow.Author.Tests.{eq-eqb, ne_eqb}
use Rattle.bits.proofs.Refusal.{Tested, end, met, unmet, tested}
use Rattle.gf2.specs.Polynomial.{member}
use Rattle.header.specs.Tests.{crc_wrong, slot_bit_wrong, extension_wrong}
use Rattle.header.specs.Header.{front_in, header_in, no_header, header_tests, header_refusal, header_read_of}
use Rattle.header.specs.declared.Front.{Front}
use Rattle.header.specs.declared.Header.{Header}
use Rattle.header_reader.specs.Parts.{front_found, extension_found}
use Rattle.header_reader.specs.declared.FrontFound.{FrontFound}
use Rattle.header_reader.specs.declared.ExtensionFound.{ExtensionFound}

pub short-refused : (h : List ℕ) → (length h ≡ 188 → ⊥) → 1 ≡ header_refusal h
unfolding header_refusal
short-refused h n = tested (met (ap not (ne_eqb (length h) 188 n)))

module _ (h : List ℕ) (l : length h ≡ 188) (front : FrontFound) (ef : front ≡ front_found h) where
  is_front : front.front ≡ front_in h
  is_front = ap (λ (f : FrontFound). f.front) ef

  past-length : {n : ℕ} → Tested (drop 1 (header_tests h)) n → n ≡ header_refusal h
  unfolding header_refusal
  past-length a = tested (unmet (ap not (eq-eqb (length h) 188 l)) a)

  packet-in : (b : Bool) → eqb (front.front.packet / 2 ^ 24) 0x47 ≡ b → not (eqb ((front_in h).packet / 2 ^ 24) 0x47) ≡ not b
  packet-in b e = ap not (ap (λ (f : Front). eqb (f.packet / 2 ^ 24) 0x47) (sym is_front) ∙ e)

  form_in : (b : Bool) → eqb front.front.form 1 ≡ b → not (eqb (front_in h).form 1) ≡ not b
  form_in b e = ap not (ap (λ (f : Front). eqb f.form 1) (sym is_front) ∙ e)

  pub packet-sync-refused : (front.front.packet / 2 ^ 24 ≡ 0x47 → ⊥) → 12 ≡ header_refusal h
  packet-sync-refused n = past-length (met (packet-in false (ne_eqb _ _ n)))

  module _ (z12 : front.front.packet / 2 ^ 24 ≡ 0x47) where
    past-packet-sync : {n : ℕ} → Tested (drop 2 (header_tests h)) n → n ≡ header_refusal h
    past-packet-sync a = past-length (unmet (packet-in true (eq-eqb _ _ z12)) a)

    pub crc-refused : crc_wrong h ≡ true → 13 ≡ header_refusal h
    crc-refused e = past-packet-sync (met e)

    module _ (z13 : crc_wrong h ≡ false) where
      pub form-refused : (front.front.form ≡ 1 → ⊥) → 14 ≡ header_refusal h
      form-refused n = past-packet-sync (unmet z13 (met (form_in false (ne_eqb _ _ n))))

      module _ (z14 : front.front.form ≡ 1) where
        past-form : {n : ℕ} → Tested (drop 4 (header_tests h)) n → n ≡ header_refusal h
        past-form a = past-packet-sync (unmet z13 (unmet (form_in true (eq-eqb _ _ z14)) a))

        slot-bit : slot_bit_wrong h ≡ not front.fixed
        slot-bit = sym (ap (λ (f : FrontFound). not f.fixed) ef ∙ not-not (slot_bit_wrong h))

        states : member 3 (front_in h).states ≡ member 3 front.front.states
        states = sym (ap (λ (f : Front). member 3 f.states) is_front)

        pub slot-bit-refused : not front.fixed ≡ true → 15 ≡ header_refusal h
        slot-bit-refused e = past-form (met (ap (◌|| (member 3 (front_in h).states || extension_wrong h)) (slot-bit ∙ e)))

        pub state-refused : member 3 front.front.states ≡ true → 15 ≡ header_refusal h
        state-refused e = past-form (met (ap (λ t. slot_bit_wrong h || (t || extension_wrong h)) (states ∙ e) ∙ or-true (slot_bit_wrong h)))

        module _ (extension : ExtensionFound) (ee : extension ≡ extension_found h) where
          extension-bits : extension_wrong h ≡ not extension.fixed
          extension-bits = sym (ap (λ (f : ExtensionFound). not f.fixed) ee ∙ not-not (extension_wrong h))

          pub extension-refused : not extension.fixed ≡ true → 15 ≡ header_refusal h
          extension-refused e =
              past-form
              (met (ap (λ t. slot_bit_wrong h || (member 3 (front_in h).states || t)) (extension-bits ∙ e)
              ∙ ap (slot_bit_wrong h ||◌) (or-true (member 3 (front_in h).states)) ∙ or-true (slot_bit_wrong h)))

          pub none-refused : not front.fixed ≡ false → member 3 front.front.states ≡ false → not extension.fixed ≡ false → 0 ≡ header_refusal h
          none-refused a b c = past-form (unmet (rw (slot-bit ∙ a, states ∙ b, extension-bits ∙ c)) end)

-- ---- the header beside its number

pub read-refused : (h : List ℕ) (n : ℕ) (r : Header) → n ≡ header_refusal h → (n ≡ 0 → ⊥) → r ≡ no_header → record { number = n; header = r } ≡ header_read_of h
unfolding header_read_of
read-refused h n r e z f =
    λ i. record {
      number = e i;
      header = (f ∙ sym (ap (λ t. cond t (header_in h) no_header) (ap (λ k. eqb k 0) (sym e) ∙ ne_eqb n 0 z))) i;
    }

pub read_found : (h : List ℕ) (n : ℕ) (front : FrontFound) (extension : ExtensionFound) → n ≡ header_refusal h → n ≡ 0
    → front ≡ front_found h → extension ≡ extension_found h
    → record { number = 0; header = record { front = front.front; extension = extension.extension } } ≡ header_read_of h
unfolding header_read_of
read_found h n front extension e z ef ee =
    λ i. record {
      number = (sym z ∙ e) i;
      header =
          ((λ j. record { front = (ef j).front; extension = (ee j).extension })
          ∙ sym (ap (λ t. cond t (header_in h) no_header) (ap (λ k. eqb k 0) (sym e) ∙ eq-eqb n 0 z))) i;
    }
