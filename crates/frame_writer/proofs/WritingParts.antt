-- The parts of a frame as the writer makes them: that they find room, how long they are, what `write_all` leaves. Assumes nothing.
use mathlib.Core.Path.{◌≡◌, refl, ap, ◌∙◌}
use mathlib.Core.Bool.{Bool, true}
use mathlib.Core.List.{List, ◌++◌}
use Prim.Native.Nat.{ℕ, ◌≤◌}
use native.Mathlib.Omega.{arith}
use lib.ListN.{length, drop}
use Rattle.bits.specs.Layout.{pack, sum, Layout, layoutb}
use Rattle.bits.proofs.Layouts.{length-pack, layoutb-layout}
use Rattle.bits.proofs.Segments.{length-pack_segments}
use Rattle.frame.specs.Body.{layout}
use Rattle.frame.specs.Fields.{body_values, record_body}
use Rattle.frame_writer.specs.WriterParts.{front_widths, front_values, front_bits, detail_bits}
use Rattle.frame.specs.declared.Edition.{Edition}
use Rattle.frame.specs.declared.Record.{Record}
use Rattle.frame.proofs.Bodies.{layout-sum}

-- a layout that m bytes have room for, in a longer row
layout-room : (ws : List ℕ) (m n : ℕ) → layoutb ws m ≡ true → m ≤ n → Layout ws n
layout-room ws m n e h =
    let l = layoutb-layout ws m e in
    record { narrow = l.narrow; room = omega (arith, l.room); short = l.short }

-- ---- B0 to B23

pub front-layout : (n : ℕ) → 3 ≤ n → Layout front_widths n
unfolding front_widths sum
front-layout n h = layout-room front_widths 3 n refl h

pub length_front : (ed : Edition) (r : Record) → length (front_bits ed r) ≡ 24
unfolding front_bits front_widths sum
length_front ed r = length-pack front_widths (front_values ed r)

pub front-count : (ed : Edition) (r : Record) (vs : List ℕ) → vs ≡ front_values ed r → length vs ≡ 5
unfolding front_values
front-count ed r vs e = ap length e

pub front-written : (ed : Edition) (r : Record) (vs : List ℕ) (l m : List Bool) → vs ≡ front_values ed r → m ≡ pack front_widths vs ++ drop (sum front_widths) l → m ≡ front_bits ed r ++ drop 24 l
unfolding front_bits front_widths sum
front-written ed r vs l m e p = p ∙ ap (λ v. pack front_widths v ++ drop 24 l) e

-- ---- B24 to B111

pub length-details : (ed : Edition) (r : Record) → length (detail_bits ed r) ≡ 88
unfolding detail_bits
length-details ed r = length-pack_segments (layout (record_body ed r)) (body_values (record_body ed r) r) ∙ layout-sum (record_body ed r)
