-- The span of a body's fields as the code has it: its bounds, and the room that the fields find in bytes. Assumes nothing.
use mathlib.Core.Path.{◌≡◌, sym, ap, ◌∙◌, subst}
use mathlib.Core.List.{List}
use Prim.Native.Nat.{ℕ, ◌-◌, ◌*◌, ◌≤◌, ◌<◌}
use native.Mathlib.Omega.{arith}
use mir.Syntax.{w64}
use mir.Val.{Fits}
use lib.ListN.{length, take, drop, length-drop}
use lib.Seq.{take_all, length-take-le}
use Rattle.bits.specs.Bits.{bits}
use Rattle.bits.specs.Layout.{Layout}
use Rattle.bits.proofs.Bits.{bits-drop}
use Rattle.frame.specs.Span.{span_of, between}
use Rattle.frame.specs.Fields.{field_count, field_widths}
use Rattle.frame.specs.declared.Body.{Body}
use Rattle.frame.specs.declared.Span.{Span}
use Rattle.frame.proofs.Bodies.{length-field_widths, right}

-- what is known of the numbers that the code has for a body
pub record Bounded (s : Span) : Type 0 where
  pub before : s.before ≤ 7
  pub after : s.after < 64
  pub ordered : s.from ≤ s.to
  pub within : s.to ≤ field_count

pub bounded : (b : Body) {s : Span} → s ≡ span_of b → Bounded s
bounded b e =
    let h = right b in
    subst Bounded (sym e) (record { before = h.before; after = h.after; ordered = h.ordered; within = h.within })

pub length-widths : (b : Body) {ws : List ℕ} → ws ≡ field_widths b → length ws ≡ field_count
length-widths b e = ap length e ∙ length-field_widths b

-- so the parts that the code lends are there: the bytes from the first field on, the fields from the first one on, up to the last
pub from_byte : (b : Body) {s : Span} {n : ℕ} → s ≡ span_of b → 11 ≤ n → s.before ≤ n
from_byte b e h = omega (arith, (bounded b e).before, h)

pub from_field : (b : Body) {s : Span} → s ≡ span_of b → Fits w64 (s.from * 8)
from_field b e = omega (arith, (bounded b e).ordered, (bounded b e).within)

pub to-field : (b : Body) {s : Span} {n : ℕ} → s ≡ span_of b → n ≡ field_count → s.to ≤ n
to-field b e h = omega (arith, (bounded b e).within, h)

-- as many elements as there are between two indices
pub length-between : (m n k : ℕ) (l : List ℕ) → m ≤ n → n ≤ k → length l ≡ k → length (between m n l) ≡ n - m
length-between m n k l h g e = length-take-le (n - m) (drop m l) (omega (arith, length-drop m l))

-- what is left of some bytes after the first k, as a slice from k on is lent
abbrev pub rest : List ℕ → ℕ → List ℕ
rest s k = take (length s - k) (drop k s)

length_rest : (s : List ℕ) (k : ℕ) → k ≤ length s → length (rest s k) ≡ length s - k
length_rest s k h = length-take-le (length s - k) (drop k s) (omega (arith, length-drop k s))

pub bits-rest : (s : List ℕ) (k : ℕ) → k ≤ length s → bits (rest s k) ≡ drop (8 * k) (bits s)
bits-rest s k h =
    ap bits (take_all (length s - k) (drop k s) (omega (arith, length-drop k s))) ∙ sym (bits-drop k s h)

module _ (b : Body) {sp : Span} {ws : List ℕ} (es : sp ≡ span_of b) (ew : ws ≡ field_widths b) where
  pub room_in : (s : List ℕ) → 11 ≤ length s → Layout (between sp.from sp.to ws) (length (rest s sp.before))
  room_in s h =
      let o : sp.before ≤ 7 = (bounded b es).before in
      let l = subst (λ (k : Span). Layout (between k.from k.to (field_widths b)) (11 - k.before)) (sym es) (right b).room in
      let m = subst (λ (k : List ℕ). Layout (between sp.from sp.to k) (11 - sp.before)) (sym ew) l in
      record { narrow = m.narrow; room = omega (arith, m.room, length_rest s sp.before (omega (arith, o, h)), o); short = m.short }

  pub count-in : (l : List ℕ) → length l ≡ field_count → length (between sp.from sp.to l) ≡ length (between sp.from sp.to ws)
  count-in l e =
      let o = bounded b es in
      length-between sp.from sp.to field_count l o.ordered o.within e
      ∙ sym (length-between sp.from sp.to field_count ws o.ordered o.within (length-widths b ew))
