-- Machine words that hold the sums on the check rows, 64 at a time, and the majorities that come of it. Assumes nothing.
use mathlib.Core.Path.{◌≡◌, refl, sym, ap, ap₂, ◌∙◌}
use mathlib.Core.Bool.{Bool, true, false}
use mathlib.Core.List.{List, [], ◌∷◌, map}
use Prim.Native.Nat.{ℕ, suc, ◌+◌, ◌-◌, ◌/◌, ◌%◌, ◌≤◌, ◌<◌}
use native.Mathlib.Omega.{arith}
use lib.Dec.{T, ltb, leb}
use lib.ListN.{get_or}
use borrow.Author.Tests.{ltb-true, ltb-false}
use Rattle.bits.specs.Bits.{digit}
use Rattle.bits.proofs.Computed.{all_below}
use Rattle.lanes.specs.Lane.{lane, bit_at, set_in}
use Rattle.lanes.proofs.Windows.{Fit, window, lane-window}
use Rattle.dsc.specs.Code.{count}
use Rattle.dsc.specs.CheckTable.{differences, rows_of}
use Rattle.dsc.proofs.CheckRows.{count_map, count_same}
use Rattle.dsc_errors.specs.Errors.{moved_on, Wrapped, MovedMajority}

-- ---- a count of windows, in the shape that the code has

module _ (ws : List ℕ) (fit : Fit ws) (i : ℕ) (h : i < 64) where
  pub set-windows : (ps : List ℕ) → set_in i (map (window ws) ps) ≡ count (moved_on ws i) ps
  set-windows [] = refl
  set-windows (p ∷ ps) = ap₂ ◌+◌ (ap digit (lane-window ws fit i h p)) (set-windows ps)

-- ---- words that hold a row of 273 bits, f, which begins again after the last

-- the first m lanes of x are the bits of the row from place n on
pub record Holds (f : ℕ → Bool) (n m x : ℕ) : Type 0 where
  pub each : (i : ℕ) → i < m → lane x i ≡ f ((n + i) % 273)

-- the same of the first m bits of several words
pub record Held (f : ℕ → Bool) (n m : ℕ) (ws : List ℕ) : Type 0 where
  pub each : (j : ℕ) → j < m → bit_at ws j ≡ f ((n + j) % 273)

-- the same of lanes 47 to 63 of x
pub record HoldsTop (f : ℕ → Bool) (n x : ℕ) : Type 0 where
  pub each : (r : ℕ) → 47 ≤ r → r < 64 → lane x r ≡ f ((n + r) % 273)

module _ {f : ℕ → Bool} {n m x : ℕ} where
  pub held-last : m ≤ 64 → Holds f n m x → Held f n m (x ∷ [])
  held-last l e =
      record {
        each = λ j h. ap₂ (λ q r. lane (get_or (x ∷ []) q 0) r) (let q : j / 64 ≡ 0 = omega arith in q) (let q : j % 64 ≡ j = omega arith in q) ∙ e.each j h;
      }

  pub held_more : {ws : List ℕ} → Holds f n 64 x → Held f (n + 64) m ws → Held f n (64 + m) (x ∷ ws)
  held_more {ws} e es = record { each = λ j h. go j h (ltb j 64) refl }
    where
      go : (j : ℕ) → j < 64 + m → (t : Bool) → ltb j 64 ≡ t → bit_at (x ∷ ws) j ≡ f ((n + j) % 273)
      go j h true q =
          let l = ltb-true j 64 q in
          ap₂ (λ q r. lane (get_or (x ∷ ws) q 0) r) (let z : j / 64 ≡ 0 = omega arith in z) (let z : j % 64 ≡ j = omega arith in z) ∙ e.each j l
      go j h false q =
          let l = ltb-false j 64 q in
          ap₂ (λ q r. lane (get_or (x ∷ ws) q 0) r) (let z : j / 64 ≡ suc ((j - 64) / 64) = omega arith in z) (let z : j % 64 ≡ (j - 64) % 64 = omega arith in z)
          ∙ es.each (j - 64) (omega arith)
          ∙ ap (λ k. f (k % 273)) (omega arith)

module _ {f : ℕ → Bool} {n m a b c d e : ℕ} where
  pub held-five : m ≤ 64 → Holds f n 64 a → Holds f (n + 64) 64 b → Holds f (n + 64 + 64) 64 c → Holds f (n + 64 + 64 + 64) 64 d → Holds f (n + 64 + 64 + 64 + 64) m e
      → Held f n (64 + (64 + (64 + (64 + m)))) (a ∷ b ∷ c ∷ d ∷ e ∷ [])
  held-five l ha hb hc hd he = held_more ha (held_more hb (held_more hc (held_more hd (held-last l he))))

module _ {f : ℕ → Bool} where
  pub again : {n m x : ℕ} → Holds f n m x → Holds f (n + 273) m x
  again {n} e = record { each = λ i h. e.each i h ∙ ap f (let q : (n + i) % 273 ≡ (n + 273 + i) % 273 = omega arith in q) }

  pub wrapped : {n x y z : ℕ} → Wrapped x y z → HoldsTop f n x → Holds f (n + 64) 64 y → Holds f (n + 47) 64 z
  wrapped {n} {x} {y} w ex ey = record { each = λ i h. w.each i h ∙ go i h (ltb i 17) refl }
    where
      go : (i : ℕ) → i < 64 → (t : Bool) → ltb i 17 ≡ t → bit_at (x ∷ y ∷ []) (i + 47) ≡ f ((n + 47 + i) % 273)
      go i h true q =
          let l = ltb-true i 17 q in
          ap₂ (λ q r. lane (get_or (x ∷ y ∷ []) q 0) r) (let z : (i + 47) / 64 ≡ 0 = omega arith in z) (let z : (i + 47) % 64 ≡ i + 47 = omega arith in z)
          ∙ ex.each (i + 47) (omega arith) (omega arith)
          ∙ ap (λ k. f (k % 273)) (let z : n + (i + 47) ≡ n + 47 + i = omega arith in z)
      go i h false q =
          let l = ltb-false i 17 q in
          ap₂ (λ q r. lane (get_or (x ∷ y ∷ []) q 0) r) (let z : (i + 47) / 64 ≡ 1 = omega arith in z) (let z : (i + 47) % 64 ≡ i - 17 = omega arith in z)
          ∙ ey.each (i - 17) (omega arith)
          ∙ ap (λ k. f (k % 273)) (let z : n + 64 + (i - 17) ≡ n + 47 + i = omega arith in z)

-- words 0 to 3 of such a row, and a word whose lanes from 47 on are the last 17 bits
pub record Row (f : ℕ → Bool) (w0 w1 w2 w3 top : ℕ) : Type 0 where
  pub at0 : Holds f 0 64 w0
  pub at64 : Holds f 64 64 w1
  pub at128 : Holds f 128 64 w2
  pub at192 : Holds f 192 64 w3
  pub end : HoldsTop f 209 top

module _ {f : ℕ → Bool} {w0 w1 w2 w3 top : ℕ} (r : Row f w0 w1 w2 w3 top) where
  pub at256 : {z : ℕ} → Wrapped top w0 z → Holds f 256 64 z
  at256 w = wrapped {n = 209} w r.end (again r.at0)

  -- word k + 5 from words k and k + 1, the first of which is held from place n on
  next : {n x y z : ℕ} → Wrapped x y z → Holds f n 64 x → Holds f (n + 64) 64 y → Holds f (n + 47 + 273) 64 z
  next w ex ey = again (wrapped w (record { each = λ r l h. ex.each r h }) ey)

  pub at320 : {z : ℕ} → Wrapped w0 w1 z → Holds f 320 64 z
  at320 w = next w r.at0 r.at64

  pub at384 : {z : ℕ} → Wrapped w1 w2 z → Holds f 384 64 z
  at384 w = next w r.at64 r.at128

-- ---- the rows through a place are those through place 0, moved on

set_below : T (all_below 202 differences)
unfolding differences
set_below = tt

pub majority-held : (f : ℕ → Bool) (n x : ℕ) {ws : List ℕ} → Held f n 320 ws → MovedMajority ws x → (i : ℕ) → i < 64
    → lane x i ≡ leb 9 (count f (rows_of (n + i)))
majority-held f n x {ws} e s i h =
    s.each i h
    ∙ ap (leb 9)
    (count_same 202 (moved_on ws i) (λ d. f ((n + i + d) % 273)) differences set_below
    (λ d hd. e.each (i + d) (omega arith) ∙ ap (λ k. f (k % 273)) (let q : n + (i + d) ≡ n + i + d = omega arith in q))
    ∙ sym (count_map f (λ d. (n + i + d) % 273) differences))
