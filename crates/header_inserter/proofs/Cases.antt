-- The cases of laying in and taking out, as the functions come to them. Assumes nothing.
use mathlib.Core.Path.{◌≡◌, refl, ◌∙◌, sym, ap}
use mathlib.Core.Bool.{Bool, true, false, cond}
use mathlib.Core.Logic.{◌≢◌}
use mathlib.Core.List.{List}
use Prim.Native.Nat.{ℕ}
use lib.Dec.{eqb}
use lib.ListN.{length, take}
use borrow.Author.Tests.{eq-eqb, ne_eqb}
use Rattle.bits.specs.Bits.{bits}
use Rattle.bits.specs.Layout.{pack, unpack}
use Rattle.dsc.specs.Marks.{Marking}
use Rattle.frame.specs.Read.{refusal_by, cleaned_by}
use Rattle.frame.specs.declared.Edition.{Edition}
use Rattle.frame.specs.declared.Cleaned.{Cleaned}
use Rattle.header.specs.Header.{header_refusal}
use Rattle.header_laying.specs.Laying.{with_ac, lay_in_number, lay_in_of, take_out_of}
use Rattle.header_tables.specs.AcTables.{ac_widths, ac_ones}
use Rattle.header_inserter.specs.AcBits.{with_cleaned}
use Rattle.header_inserter.proofs.AcValues.{all_ones, frame-first}
use Rattle.header_laying.proofs.Promises.{laying, taking-out, taken-with, size}

-- an accepted header has 188 bytes
pub accepted-size : (h : List ℕ) (n : ℕ) → n ≡ header_refusal h → n ≡ 0 → length h ≡ 188
accepted-size h n e z = size h (sym e ∙ z)

-- ---- a cleaned frame laid into the header h

module _ (h : List ℕ) (c : Cleaned) where
  pub cleaned-refused : c.number ≢ 0 → (c.number ≡ c.number) × (h ≡ with_cleaned h c)
  unfolding with_cleaned
  cleaned-refused z = (refl, rw (ne_eqb c.number 0 z))

  pub cleaned-laid : (v w : List ℕ) → length c.frame ≡ 26 → c.number ≡ 0 → v ≡ unpack ac_widths (bits c.frame) → w ≡ with_ac h (pack ac_widths v)
      → (0 ≡ c.number) × (w ≡ with_cleaned h c)
  unfolding with_cleaned
  cleaned-laid v w l z p q =
      (sym z, q ∙ ap (with_ac h) (ap (pack ac_widths) p ∙ frame-first c.frame l) ∙ sym (ap (λ (t : Bool). cond t (with_ac h (take 204 (bits c.frame))) h) (eq-eqb c.number 0 z)))

-- ---- laying in: the header h, the frame f, marked as q says

module _ (ed : Edition) (q : Marking) (h f : List ℕ) where
  pub header_refused : (n : ℕ) → n ≡ header_refusal h → n ≢ 0 → (n ≡ lay_in_number ed q h f) × (h ≡ lay_in_of ed q h f)
  header_refused n e z =
      let m = e ∙ sym ((laying ed q).header-first h f (λ p. z (e ∙ p))) in
      (m, sym ((laying ed q).laid-unchanged h f (λ p. z (m ∙ p))))

  -- past the header's test both are the answer by the frame's refusal
  laid_by : header_refusal h ≡ 0 → with_cleaned h (cleaned_by ed q f) ≡ lay_in_of ed q h f
  unfolding with_cleaned cleaned_by lay_in_of
  laid_by a = go (eqb (refusal_by ed q f) 0) refl
    where
      n : lay_in_number ed q h f ≡ refusal_by ed q f
      n = (laying ed q).then-frame h f a

      go : (t : Bool) → eqb (refusal_by ed q f) 0 ≡ t → with_cleaned h (cleaned_by ed q f) ≡ lay_in_of ed q h f
      go true e = rw (n, e) refl
      go false e = rw (n, e) refl

  -- c is the cleaned frame, m what laying it into the header answers, w what stands in the header then
  pub laid : (n : ℕ) (c : Cleaned) (m : ℕ) (w : List ℕ) → n ≡ header_refusal h → n ≡ 0 → c ≡ cleaned_by ed q f → (m ≡ c.number) × (w ≡ with_cleaned h c)
      → (m ≡ lay_in_number ed q h f) × (w ≡ lay_in_of ed q h f)
  unfolding cleaned_by
  laid n c m w a b e k =
      (k.0 ∙ ap (λ (x : Cleaned). x.number) e ∙ sym ((laying ed q).then-frame h f (sym a ∙ b)), k.1 ∙ ap (with_cleaned h) e ∙ laid_by (sym a ∙ b))

-- ---- taking out

module _ (h : List ℕ) where
  pub out-refused : (n : ℕ) → n ≡ header_refusal h → n ≢ 0 → (n ≡ header_refusal h) × (h ≡ take_out_of h)
  out-refused n e z = (e, sym (taking-out.taken-unchanged h (λ p. z (e ∙ p))))

  pub taken : (n : ℕ) (v w : List ℕ) → n ≡ header_refusal h → n ≡ 0 → v ≡ ac_ones → w ≡ with_ac h (pack ac_widths v) → (0 ≡ header_refusal h) × (w ≡ take_out_of h)
  taken n v w e z p q = (sym z ∙ e, q ∙ ap (with_ac h) (ap (pack ac_widths) p ∙ all_ones) ∙ sym (taken-with h (sym e ∙ z)))
