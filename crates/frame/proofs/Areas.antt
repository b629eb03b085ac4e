-- The areas of a record, in its frame. Assumes nothing.
use mathlib.Core.Path.{◌≡◌, sym, ap, ◌∙◌}
use mathlib.Core.Bool.{Bool, false, not}
use mathlib.Core.List.{List, [], ◌++◌}
use Prim.Native.Nat.{ℕ, ◌+◌, ◌-◌, ◌/◌, ◌^◌, ◌≤◌, ◌<◌}
use native.Mathlib.Omega.{arith}
use lib.ListN.{get_or, drop, get_or-append}
use lib.Seq.{get_or-append-add, get_or-take, get_or-drop}
use borrow.Author.Tests.{eq-eqb, le-leb}
use Rattle.bits.specs.Bits.{odd, bits_of, bits}
use Rattle.bits.specs.Layout.{pack}
use Rattle.bits.specs.Segment.{widths, with_fixed, pack_segments}
use Rattle.bits.proofs.Bits.{length-bits_of, get_or-bits_of}
use Rattle.frame.specs.Area.{warned_in}
use Rattle.frame.specs.Body.{row, layout}
use Rattle.frame.specs.Fields.{gather, body_values, record_body}
use Rattle.frame.specs.Write.{frame_of}
use Rattle.frame.specs.declared.Edition.{Edition}
use Rattle.frame.specs.declared.Body.{Body}
use Rattle.frame.specs.declared.Body.TheVariants.{AreaPage}
use Rattle.frame.specs.declared.Record.{Record}
use Rattle.frame.proofs.Identifications.{warning-class}
use Rattle.frame.proofs.Frames.{length-frame, parts-frame, own-parts}

-- bit k after w bits of a number
after : (w v k : ℕ) (l : List Bool) → get_or (bits_of w v ++ l) (w + k) false ≡ get_or l k false
after w v k l = ap (λ (n : ℕ). get_or (bits_of w v ++ l) (n + k) false) (sym (length-bits_of w v)) ∙ get_or-append-add (bits_of w v) l k false

-- bit 32 + k of the details
in-details : (r : Record) (k : ℕ) → k < 56 → get_or (pack_segments (layout AreaPage) (body_values AreaPage r)) (32 + k) false ≡ odd (r.areas / 2 ^ (55 - k))
unfolding row layout gather body_values widths with_fixed pack
in-details r k h =
    let details = bits_of 31 r.time ++ (bits_of 1 r.page ++ (bits_of 56 r.areas ++ [])) in
    ap (λ (n : ℕ). get_or details n false) (omega arith)
    ∙ after 31 r.time (1 + k) (bits_of 1 r.page ++ (bits_of 56 r.areas ++ []))
    ∙ after 1 r.page k (bits_of 56 r.areas ++ [])
    ∙ get_or-append (bits_of 56 r.areas) [] false k (omega (arith, length-bits_of 56 r.areas))
    ∙ get_or-bits_of 56 r.areas k h
    ∙ ap (λ (n : ℕ). odd (r.areas / 2 ^ n)) (omega arith)

module _ (ed : Edition) (r : Record) (warning : r.identification ≤ 3) (page : r.page ≡ 0) (k : ℕ) (h : k < 56) where
  body : record_body ed r ≡ AreaPage
  body = rw (warning-class ed r.identification warning, page)

  on-air : get_or (bits (frame_of ed r)) (56 + k) false ≡ odd (r.areas / 2 ^ (55 - k))
  on-air =
      let b = bits (frame_of ed r) in
      let details = (own-parts ed r (frame_of ed r) (length-frame ed r) (parts-frame ed r).word).details in
      ap (λ (n : ℕ). get_or b n false) (omega arith)
      ∙ sym (get_or-drop 24 b (32 + k) false)
      ∙ sym (get_or-take 88 (drop 24 b) (32 + k) false (omega arith))
      ∙ ap (λ (l : List Bool). get_or l (32 + k) false) details
      ∙ ap (λ (y : Body). get_or (pack_segments (layout y) (body_values y r)) (32 + k) false) body
      ∙ in-details r k h

  pub warned-on-air : warned_in r k ≡ not (get_or (bits (frame_of ed r)) (56 + k) false)
  unfolding warned_in
  warned-on-air = rw (le-leb r.identification 3 warning, eq-eqb r.page 0 page, le-leb k 55 (omega arith)) (ap not (sym on-air))
