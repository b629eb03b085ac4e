-- What the functions that read the details answer. Assumes nothing.
use mathlib.Core.Path.{◌≡◌, refl, sym, ap, ap₂, ◌∙◌}
use mathlib.Core.Bool.{Bool, ◌&&◌}
use mathlib.Core.List.{List, [], ◌∷◌, ◌++◌}
use Prim.Native.Nat.{ℕ, zero, suc, ◌+◌, ◌-◌, ◌*◌, ◌≤◌}
use native.Mathlib.Omega.{arith}
use lib.ListN.{length, take, drop, set, replicate, length-append, length-drop}
use lib.Seq.{take-nil, take-take, drop-drop, length-take-le}
use Rattle.bits.specs.Bits.{value, bits}
use Rattle.bits.specs.Layout.{unpack, sum}
use Rattle.bits.specs.declared.Segment.TheVariants.{Ones}
use Rattle.bits.specs.Segment.{widths, holds, fixed_hold, free}
use Rattle.bits.proofs.Layouts.{length-unpack}
use Rattle.frame.specs.Body.{layout, own_update}
use Rattle.frame.specs.Span.{span_of, between}
use Rattle.frame.specs.Fields.{field_count, no_origin, record_from, field_widths, record_of}
use Rattle.frame.specs.declared.Body.{Body}
use Rattle.frame.specs.declared.Span.{Span}
use Rattle.frame.specs.declared.Origin.{Origin}
use Rattle.frame.specs.declared.Record.{Record}
use Rattle.frame.proofs.Bodies.{layout-sum, length-field_widths, right}
use Rattle.frame_details.specs.Details.{fields_read, ones_hold, details_of}
use Rattle.frame_details.specs.declared.Details.{Details}
use Rattle.frame_details.proofs.Spans.{bounded, length-between, rest, bits-rest}
use Rattle.frame_details.proofs.Rows.{record-read, fixed-bits}

length-read : (b : Body) (d : List Bool) → length (fields_read b d) ≡ field_count
unfolding fields_read
length-read b d =
    let s = span_of b in
    let h = right b in
    let z : List ℕ = replicate field_count 0 in
    let ws = between s.from s.to (field_widths b) in
    let us = unpack ws (drop (8 * s.before) d) in
    let n : length us ≡ s.to - s.from =
    length-unpack ws (drop (8 * s.before) d) ∙ length-between s.from s.to field_count (field_widths b) h.ordered h.within (length-field_widths b) in
    length-append (take s.from z) (us ++ drop s.to z)
    ∙ omega (arith, h.ordered, h.within, n, length-append us (drop s.to z), length-drop s.to z, length-take-le s.from z (omega (arith, h.ordered, h.within)))

-- the first four elements of a list replaced
set-four : (l : List ℕ) (a b c d : ℕ) → 4 ≤ length l → set (set (set (set l 0 a) 1 b) 2 c) 3 d ≡ a ∷ b ∷ c ∷ d ∷ drop 4 l
set-four [] a b c d h = absurd (omega arith)
set-four (p ∷ []) a b c d h = absurd (omega arith)
set-four (p ∷ q ∷ []) a b c d h = absurd (omega arith)
set-four (p ∷ q ∷ r ∷ []) a b c d h = absurd (omega arith)
set-four (p ∷ q ∷ r ∷ s ∷ l) a b c d h = refl

drop-take : (w k n : ℕ) (l : List Bool) → n ≡ w + k → drop w (take n l) ≡ take k (drop w l)
drop-take zero k n l e = let z : n ≡ k = omega (arith, e) in ap (λ (m : ℕ). take m l) z
drop-take (suc w) k zero l e = absurd (omega arith)
drop-take (suc w) k (suc n) [] e = sym (take-nil k)
drop-take (suc w) k (suc n) (x ∷ l) e = drop-take w k n l (omega (arith, e))

-- widths that find room in the first n bits ask nothing of the others
unpack-front : (ws : List ℕ) (n : ℕ) (l : List Bool) → sum ws ≤ n → unpack ws (take n l) ≡ unpack ws l
unfolding unpack sum
unpack-front [] n l h = refl
unpack-front (w ∷ ws) n l h =
    ap₂ (λ (v : ℕ) (vs : List ℕ). v ∷ vs) (ap value (take-take w n l (omega arith)))
    (ap (unpack ws) (drop-take w (n - w) n l (omega arith))
    ∙ unpack-front ws (n - w) (drop w l) (omega arith))

details-front : (b : Body) (x p i u : ℕ) (d : List Bool) → details_of b x p i u d ≡ details_of b x p i u (take 88 d)
unfolding details_of
details-front b x p i u d =
    ap (λ (vs : List ℕ). record { holds = fixed_hold (layout b) vs; contents = record_of b x p i u (free (layout b) vs) })
    (sym (unpack-front (widths (layout b)) 88 d (omega (arith, layout-sum b))))

pub ones-seen : (b : Body) (d : List Bool) {s : Span} {v w : ℕ} {t u : Bool} → s ≡ span_of b
    → v ≡ value (take (8 * s.before) d) → t ≡ holds (Ones (8 * s.before)) v
    → w ≡ value (take s.after (drop (88 - s.after) d)) → u ≡ holds (Ones s.after) w
    → (t && u) ≡ ones_hold b d
unfolding ones_hold
ones-seen b d {s} es ev et ew eu =
    ap₂ ◌&&◌ (et ∙ ap (holds (Ones (8 * s.before))) ev) (eu ∙ ap (holds (Ones s.after)) ew)
    ∙ ap (λ (k : Span). holds (Ones (8 * k.before)) (value (take (8 * k.before) d))
    && holds (Ones k.after) (value (take k.after (drop (88 - k.after) d)))) es

pub details-read : (b : Body) (x p i u : ℕ) (d : List Bool) {v : List ℕ} {t : Bool} {o : ℕ} {g : Origin} {r : Record} → 88 ≤ length d → t ≡ ones_hold b d → v ≡ fields_read b d
    → o ≡ own_update b u → g ≡ no_origin → r ≡ record_from g (set (set (set (set v 0 x) 1 p) 2 i) 3 o)
    → ◌≡◌ {A = Details} (record { holds = t; contents = r }) (details_of b x p i u (take 88 d))
unfolding details_of
details-read b x p i u d {v} {o = o} n et ev eo eg er =
    ap₂ (λ (s : Bool) (y : Record). record { holds = s; contents = y })
    (et ∙ sym (fixed-bits b d n))
    (er
    ∙ ap (λ (z : Origin). record_from z (set (set (set (set v 0 x) 1 p) 2 i) 3 o)) eg
    ∙ ap₂ (λ (l : List ℕ) (k : ℕ). record_from no_origin (set (set (set (set l 0 x) 1 p) 2 i) 3 k)) ev eo
    ∙ ap (record_from no_origin) (set-four (fields_read b d) x p i (own_update b u) (omega (arith, length-read b d)))
    ∙ sym (record-read b x p i u d))
    ∙ details-front b x p i u d

pub fields-found : (b : Body) (s : List ℕ) {sp : Span} {ws last : List ℕ} → sp ≡ span_of b → ws ≡ field_widths b → 11 ≤ length s
    → last ≡ unpack (between sp.from sp.to ws) (bits (rest s sp.before))
    → let z : List ℕ = replicate field_count 0 in take sp.from z ++ (last ++ drop (sp.to - sp.from) (drop sp.from z)) ≡ fields_read b (bits s)
unfolding fields_read
fields-found b s {sp} es ew h e =
    let z : List ℕ = replicate field_count 0 in
    let o = bounded b es in
    let to : sp.from + (sp.to - sp.from) ≡ sp.to = omega (arith, o.ordered) in
    ap₂ (λ (x y : List ℕ). take sp.from z ++ (x ++ y))
    (e
    ∙ ap₂ (λ (l : List ℕ) (d : List Bool). unpack (between sp.from sp.to l) d) ew (bits-rest s sp.before (omega (arith, o.before, h))))
    (drop-drop (sp.to - sp.from) sp.from z ∙ ap (λ (n : ℕ). drop n z) to)
    ∙ ap (λ (k : Span). take k.from z ++ (unpack (between k.from k.to (field_widths b)) (drop (8 * k.before) (bits s)) ++ drop k.to z)) es
