-- The details by the code's table, beside the rows of the definition: the same bits, the same record. Assumes nothing.
use mathlib.Core.Path.{◌≡◌, refl, sym, ap, ◌∙◌}
use mathlib.Core.Bool.{Bool, true, false, ◌&&◌, and-true}
use mathlib.Core.List.{List, ◌∷◌, ◌++◌}
use Prim.Native.Nat.{ℕ, ◌+◌, ◌-◌, ◌*◌, ◌^◌, ◌≤◌, ◌<◌}
use native.Mathlib.Omega.{arith}
use lib.Dec.{eqb}
use lib.ListN.{length, take, drop, length-drop}
use lib.Seq.{take-add, drop-drop, length-take-le}
use borrow.Author.Tests.{eqb-true, eqb-false, eq-eqb, ne_eqb}
use Rattle.bits.specs.Bits.{odd, value, bits_of}
use Rattle.bits.specs.Layout.{pack, unpack}
use Rattle.bits.specs.Segment.{widths, free_widths, fixed_hold, free, with_fixed, pack_segments, unpack_segments, fixed_bits_hold}
use Rattle.bits.proofs.Bits.{value-take-lt, value-append}
use Rattle.frame.specs.Body.{row, layout, own_update}
use Rattle.frame.specs.Span.{span_of, between}
use Rattle.frame.specs.Fields.{fields, no_origin, record_from, gather, scatter, field_widths, body_values, record_of}
use Rattle.frame.specs.declared.Body.{Body}
use Rattle.frame.specs.declared.Body.TheVariants.{AreaPage, PlacePage, CancelPage, SafetyDetails, NoInformation}
use Rattle.frame.specs.declared.Record.{Record}
use Rattle.frame_details.specs.Details.{fields_read, ones_hold}

-- the record, field by field
pub record-read : (b : Body) (x p i u : ℕ) (d : List Bool)
    → record_of b x p i u (unpack_segments (layout b) d) ≡ record_from no_origin (x ∷ p ∷ i ∷ own_update b u ∷ drop 4 (fields_read b d))
unfolding row layout scatter field_widths free_widths widths free unpack value span_of fields_read record_of
record-read AreaPage x p i u d = refl
record-read PlacePage x p i u d = refl
record-read CancelPage x p i u d = refl
record-read SafetyDetails x p i u d = refl
record-read NoInformation x p i u d = refl

-- the bits of a record, after those fixed at 1 and before the others
pub details-packed : (b : Body) (r : Record) → let s = span_of b in
    bits_of (8 * s.before) (2 ^ (8 * s.before) - 1)
    ++ (pack (between s.from s.to (field_widths b)) (between s.from s.to (fields r)) ++ bits_of s.after (2 ^ s.after - 1))
    ≡ pack_segments (layout b) (body_values b r)
unfolding row layout scatter gather field_widths free_widths widths with_fixed pack odd bits_of span_of body_values
details-packed AreaPage r = refl
details-packed PlacePage r = refl
details-packed CancelPage r = refl
details-packed SafetyDetails r = refl
details-packed NoInformation r = refl

-- 43 bits and one, all 1, as 44
both-ones : (x y : ℕ) → y < 2 → (eqb x (2 ^ 43 - 1) && (eqb y (2 ^ 1 - 1) && true)) ≡ eqb (x * 2 + y) (2 ^ 44 - 1)
both-ones x y h = go (eqb x (2 ^ 43 - 1)) (eqb y (2 ^ 1 - 1)) refl refl
  where
    go : (s t : Bool) → eqb x (2 ^ 43 - 1) ≡ s → eqb y (2 ^ 1 - 1) ≡ t → (s && (t && true)) ≡ eqb (x * 2 + y) (2 ^ 44 - 1)
    go true true es et = sym (eq-eqb (x * 2 + y) (2 ^ 44 - 1) (omega (arith, eqb-true x (2 ^ 43 - 1) es, eqb-true y (2 ^ 1 - 1) et)))
    go true false es et = sym (ne_eqb (x * 2 + y) (2 ^ 44 - 1) (λ e. eqb-false y (2 ^ 1 - 1) et (omega (arith, eqb-true x (2 ^ 43 - 1) es, e))))
    go false t es et = sym (ne_eqb (x * 2 + y) (2 ^ 44 - 1) (λ e. eqb-false x (2 ^ 43 - 1) es (omega (arith, e))))

two-values : (l : List Bool) → 44 ≤ length l → value (take 43 l) * 2 + value (take 1 (drop 43 l)) ≡ value (take 44 l)
two-values l h =
    sym
    (ap value (take-add 43 1 l)
    ∙ value-append (take 43 l) (take 1 (drop 43 l))
    ∙ ap (λ (n : ℕ). value (take 43 l) * 2 ^ n + value (take 1 (drop 43 l))) (length-take-le 1 (drop 43 l) (omega (arith, length-drop 43 l))))

-- where those after the fields stand
after-place : (d : List Bool) → drop 10 (drop 10 (drop 11 (drop 1 (drop 10 (drop 1 (drop 1 (drop 9 (drop 1 (drop 1 (drop 1 (drop 31 d))))))))))) ≡ drop 87 d
after-place d = simp drop-drop

after-cancel : (d : List Bool) → drop 1 (drop 9 (drop 1 (drop 1 (drop 1 (drop 31 d))))) ≡ drop 44 d
after-cancel d = simp drop-drop

-- the bits fixed at 1, before the fields and after them
pub fixed-bits : (b : Body) (d : List Bool) → 88 ≤ length d → fixed_bits_hold (layout b) d ≡ ones_hold b d
unfolding row layout widths unpack value fixed_hold span_of ones_hold
fixed-bits AreaPage d e = refl
fixed-bits PlacePage d e =
    and-true _ ∙ ap (λ (l : List Bool). eqb (value (take 1 l)) 1) (after-place d)
fixed-bits CancelPage d e =
    let l = drop 44 d in
    ap (λ (k : List Bool). eqb (value (take 43 k)) (2 ^ 43 - 1) && (eqb (value (take 1 (drop 43 k))) (2 ^ 1 - 1) && true)) (after-cancel d)
    ∙ both-ones (value (take 43 l)) (value (take 1 (drop 43 l))) (value-take-lt 1 (drop 43 l))
    ∙ ap (λ (n : ℕ). eqb n (2 ^ 44 - 1)) (two-values l (omega (arith, length-drop 44 d)))
fixed-bits SafetyDetails d e = refl
fixed-bits NoInformation d e =
    ap (λ (t : Bool). eqb (value (take 32 d)) (2 ^ 32 - 1) && t)
    (and-true _ ∙ ap (λ (l : List Bool). eqb (value (take 45 l)) (2 ^ 45 - 1)) (drop-drop 11 32 d))
