-- What the functions that write the details answer. Assumes nothing.
use mathlib.Core.Path.{◌≡◌, sym, ap, ap₂, ◌∙◌}
use mathlib.Core.Bool.{Bool}
use mathlib.Core.List.{List, [], ◌++◌, append_assoc, append-nil}
use Prim.Native.Nat.{ℕ, ◌+◌, ◌-◌, ◌*◌, ◌^◌, ◌≤◌}
use native.Mathlib.Omega.{arith}
use lib.ListN.{length, take, drop, length-append, length-drop, drop_of_length-le}
use lib.Seq.{paste, take-take, take_all, drop_at, take_at, take-append-le, drop-drop, length-take-le}
use Rattle.bits.specs.Bits.{bits_of, bits}
use Rattle.bits.specs.Field.{put_of}
use Rattle.bits.specs.Layout.{pack, sum}
use Rattle.bits.specs.Segment.{pack_segments}
use Rattle.bits.proofs.Bits.{length-bits_of, length-bits, bits-append, bits-take}
use Rattle.bits.proofs.Field.{within-room, bits-put_of, length-put_of}
use Rattle.frame.specs.Body.{layout}
use Rattle.frame.specs.Span.{span_of, between}
use Rattle.frame.specs.Fields.{fields, field_widths, body_values}
use Rattle.frame.specs.declared.Body.{Body}
use Rattle.frame.specs.declared.Span.{Span}
use Rattle.frame.specs.declared.Record.{Record}
use Rattle.frame.proofs.Bodies.{right}
use Rattle.frame_details.specs.Details.{ones_written}
use Rattle.frame_details.proofs.Spans.{bounded, rest, bits-rest}
use Rattle.frame_details.proofs.Rows.{details-packed}

pub ones-put : (b : Body) (s : List ℕ) {sp : Span} {n m : ℕ} {t u : List ℕ} → sp ≡ span_of b → n ≡ 2 ^ (8 * sp.before) → t ≡ put_of s 0 (8 * sp.before) (n - 1)
    → m ≡ 2 ^ sp.after → u ≡ put_of t (88 - sp.after) sp.after (m - 1) → u ≡ ones_written b s
unfolding ones_written
ones-put b s {sp} {n} {m} {t} es en et em eu =
    eu
    ∙ ap₂ (λ (x : List ℕ) (y : ℕ). put_of x (88 - sp.after) sp.after (y - 1)) (et ∙ ap (λ (y : ℕ). put_of s 0 (8 * sp.before) (y - 1)) en) em
    ∙ ap (λ (k : Span). put_of (put_of s 0 (8 * k.before) (2 ^ (8 * k.before) - 1)) (88 - k.after) k.after (2 ^ k.after - 1)) es

length-ones : (b : Body) (s : List ℕ) → length (ones_written b s) ≡ length s
unfolding ones_written
length-ones b s =
    let n = 8 * (span_of b).before in
    let m = (span_of b).after in length-put_of (put_of s 0 n (2 ^ n - 1)) (88 - m) m (2 ^ m - 1) ∙ length-put_of s 0 n (2 ^ n - 1)

pub room-kept : (b : Body) (s : List ℕ) {t : List ℕ} → 11 ≤ length s → t ≡ ones_written b s → 11 ≤ length t
room-kept b s h e = omega (arith, ap length e, length-ones b s)

-- what stands in the place of a field that was put
put-after : (l x : List Bool) (k a : ℕ) → k ≤ length l → length x ≡ a → drop k (paste l k x a) ≡ x ++ drop (k + a) l
put-after l x k a h e =
    ap (drop k) (append_assoc (take k l) (take a x) (drop (k + a) l))
    ∙ drop_at (take k l) (take a x ++ drop (k + a) l) k (length-take-le k l h)
    ∙ ap (◌++ drop (k + a) l) (take_all a x (omega (arith, e)))

module _ (b : Body) (s : List ℕ) (h : 11 ≤ length s) where
  n : ℕ
  n = 8 * (span_of b).before

  m : ℕ
  m = (span_of b).after

  x : List Bool
  x = bits_of n (2 ^ n - 1)

  y : List Bool
  y = bits_of m (2 ^ m - 1)

  t : List ℕ
  t = put_of s 0 n (2 ^ n - 1)

  first-bits : bits t ≡ x ++ drop n (bits s)
  unfolding n x t
  first-bits =
      bits-put_of s 0 n (2 ^ n - 1) (within-room (length s) 0 n (omega (arith, (right b).before)) (omega (arith, (right b).before)))
      ∙ put-after (bits s) x 0 n (omega arith) (length-bits_of n (2 ^ n - 1))
      ∙ ap (λ (k : ℕ). x ++ drop k (bits s)) (let z : 0 + n ≡ n = omega arith in z)

  ones-bits : bits (ones_written b s) ≡ paste (x ++ drop n (bits s)) (88 - m) y m
  unfolding n m x y t ones_written
  ones-bits =
      bits-put_of t (88 - m) m (2 ^ m - 1)
      (within-room (length t) (88 - m) m (omega (arith, (right b).after)) (omega (arith, (right b).after, length-put_of s 0 n (2 ^ n - 1))))
      ∙ ap (λ (l : List Bool). paste l (88 - m) y m) first-bits

  -- the bits before the fields, and those from after them on
  ones-first : take n (bits (ones_written b s)) ≡ x
  unfolding n m x y
  ones-first =
      let l = x ++ drop n (bits s) in
      let lx : length x ≡ n = length-bits_of n (2 ^ n - 1) in
      let ll : length l ≡ 8 * length s = length-append x (drop n (bits s)) ∙ omega (arith, lx, length-drop n (bits s), length-bits s, (right b).before) in
      let k : n ≤ 88 - m = omega (arith, (right b).all) in
      ap (take n) (ones-bits ∙ append_assoc (take (88 - m) l) (take m y) (drop (88 - m + m) l))
      ∙ take-append-le n (take (88 - m) l) (take m y ++ drop (88 - m + m) l) (omega (arith, length-take-le (88 - m) l (omega (arith, ll))))
      ∙ take-take n (88 - m) l k
      ∙ take_at x (drop n (bits s)) n lx

  ones-rest : drop (88 - m) (bits (ones_written b s)) ≡ y ++ drop 88 (bits s)
  unfolding n m x y
  ones-rest =
      let l = x ++ drop n (bits s) in
      let lx : length x ≡ n = length-bits_of n (2 ^ n - 1) in
      let ll : length l ≡ 8 * length s = length-append x (drop n (bits s)) ∙ omega (arith, lx, length-drop n (bits s), length-bits s, (right b).before) in
      let k : 88 - m + m ≡ n + (88 - n) = omega (arith, (right b).after, (right b).before) in
      let j : n + (88 - n) ≡ 88 = omega (arith, (right b).before) in
      ap (drop (88 - m)) ones-bits
      ∙ put-after l y (88 - m) m (omega (arith, ll)) (length-bits_of m (2 ^ m - 1))
      ∙ ap (λ (i : ℕ). y ++ drop i l) k
      ∙ ap (y ++◌)
      (sym (drop-drop (88 - n) n l)
      ∙ ap (drop (88 - n)) (drop_at x (drop n (bits s)) n lx)
      ∙ drop-drop (88 - n) n (bits s)
      ∙ ap (λ (i : ℕ). drop i (bits s)) j)

  module _ (r : Record) (last : List ℕ) {sp : Span} {ws v w out : List ℕ} (es : sp ≡ span_of b) (ew : ws ≡ field_widths b) (ev : v ≡ fields r) (eo : w ≡ ones_written b s)
      (el : bits last ≡ pack (between sp.from sp.to ws) (between sp.from sp.to v)
      ++ drop (sum (between sp.from sp.to ws)) (bits (rest w sp.before))) where
    pub details-written : out ≡ take sp.before w ++ (last ++ drop (length w - sp.before) (drop sp.before w))
        → bits out ≡ pack_segments (layout b) (body_values b r) ++ drop 88 (bits s)
    unfolding n m x y
    details-written e =
        let lw : 11 ≤ length w = room-kept b s h eo in
        let k = sp.before in
        let o = bounded b es in
        let fs = between (span_of b).from (span_of b).to (field_widths b) in
        let gs = between (span_of b).from (span_of b).to (fields r) in
        let none : drop (length w - k) (drop k w) ≡ [] = drop_of_length-le (drop k w) {i = length w - k} (omega (arith, length-drop k w)) in
        let before : bits (take k w) ≡ x =
        sym (bits-take k w (omega (arith, o.before))) ∙ ap₂ (λ (i : ℕ) (z : List ℕ). take i (bits z)) (ap (λ (q : Span). 8 * q.before) es) eo ∙ ones-first in
        let all : n + sum fs ≡ 88 - m = omega (arith, (right b).all) in
        let after : bits last ≡ pack fs gs ++ (y ++ drop 88 (bits s)) =
        el
        ∙ ap₂ (λ (f g : List ℕ). pack (between sp.from sp.to f) (between sp.from sp.to g)
        ++ drop (sum (between sp.from sp.to f)) (bits (rest w k))) ew ev
        ∙ ap (λ (d : List Bool). pack (between sp.from sp.to (field_widths b)) (between sp.from sp.to (fields r))
        ++ drop (sum (between sp.from sp.to (field_widths b))) d) (bits-rest w k (omega (arith, o.before, lw)))
        ∙ ap (λ (q : Span). pack (between q.from q.to (field_widths b)) (between q.from q.to (fields r))
        ++ drop (sum (between q.from q.to (field_widths b))) (drop (8 * q.before) (bits w))) es
        ∙ ap (pack fs gs ++◌) (drop-drop (sum fs) n (bits w) ∙ ap₂ (λ (i : ℕ) (z : List ℕ). drop i (bits z)) all eo ∙ ones-rest) in
        ap bits (e ∙ ap (λ (z : List ℕ). take k w ++ (last ++ z)) none ∙ ap (take k w ++◌) (append-nil last))
        ∙ bits-append (take k w) last
        ∙ ap₂ (λ (f g : List Bool). f ++ g) before after
        ∙ sym (append_assoc x (pack fs gs ++ y) (drop 88 (bits s)) ∙ ap (x ++◌) (append_assoc (pack fs gs) y (drop 88 (bits s))))
        ∙ ap (◌++ drop 88 (bits s)) (details-packed b r)
