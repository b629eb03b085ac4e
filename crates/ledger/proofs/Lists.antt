-- What a list of frames says, with a frame more, and what holds of every list. Assumes nothing.
use mathlib.Core.Path.{◌≡◌, refl, sym, ap, ap₂, ◌∙◌}
use mathlib.Core.Bool.{Bool, true, false, cond}
use mathlib.Core.List.{List, [], ◌∷◌, ◌++◌, map, map-append}
use Prim.Native.Nat.{ℕ, zero, suc, ◌+◌, ◌-◌, ◌*◌, ◌≤◌, ◌<◌}
use native.Mathlib.Omega.{arith}
use lib.Dec.{eqb, T, eqb→eq}
use lib.ListN.{length, length-append}
use borrow.Author.Tests.{eqb-true, eqb-false, ne_eqb}
use Rattle.bits.specs.Bits.{digit}
use Rattle.bits.specs.Layout.{sum}
use Rattle.bits.proofs.Layouts.{sum-append}
use Rattle.bits.proofs.Computed.{below, below_at}
use Rattle.dsc.specs.Code.{count}
use Rattle.frame.specs.declared.Verdict.{Verdict}
use Rattle.frame_verdicts.proofs.Promises.{every-verdict}
use Rattle.ledger.specs.Counting.{Frame, verdict_on, frames_with, places_counted, places_repaired, refusals, ledger_of, most_frames, possible, fresh, one_more_at, with_verdict}
use Rattle.ledger.specs.declared.Ledger.{Ledger}
use Rattle.ledger.proofs.Possible.{Counts, counts-possible}
use Rattle.ledger.proofs.Verdicts.{with-accepted, with-refused}

-- ---- a verdict's numbers

pub number-most : (f : Frame) → (verdict_on f).number ≤ 9
number-most (ed, f) = (every-verdict ed).number-most f

repaired-most : (f : Frame) → (verdict_on f).repaired ≤ 8
repaired-most (ed, f) = (every-verdict ed).places-most f

-- three places of an accepted frame, and none of a refused one
three-places : (places_counted (record { number = 0; repaired = 3 }) ≡ 3) × (places_counted (record { number = 4; repaired = 3 }) ≡ 0)
three-places = (refl, refl)

places-most : (f : Frame) → places_counted (verdict_on f) ≤ 8 * digit (eqb (verdict_on f).number 0)
unfolding digit
places-most f = go (eqb (verdict_on f).number 0)
  where
    go : (t : Bool) → cond t (verdict_on f).repaired 0 ≤ 8 * digit t
    go true = omega (arith, repaired-most f)
    go false = omega arith

-- a frame has one of the ten numbers
ten-numbers : T (below 10 (λ n. eqb (sum (map (λ m. digit (eqb n m)) refusals) + digit (eqb n 0)) 1))
unfolding below sum digit
ten-numbers = tt

one_number : (n : ℕ) → n ≤ 9 → sum (map (λ m. digit (eqb n m)) refusals) + digit (eqb n 0) ≡ 1
one_number n h =
    eqb→eq _ 1 (below_at 10 (λ n. eqb (sum (map (λ m. digit (eqb n m)) refusals) + digit (eqb n 0)) 1) ten-numbers n (omega arith))

-- ---- one more at the place of a number

-- k numbers from a on
unfoldable pub up_from : (a k : ℕ) → List ℕ
up_from a zero = []
up_from a (suc k) = a ∷ up_from (suc a) k

-- nothing more
not_more : (n : ℕ) (t : Bool) → t ≡ false → n + digit t ≡ n
unfolding digit
not_more n t e = rw e (omega arith)

module _ (m : ℕ) (g : ℕ → ℕ) where
  -- those after m stay
  none_more : (k a : ℕ) → m < a → map (λ n. g n + digit (eqb m n)) (up_from a k) ≡ map g (up_from a k)
  unfolding up_from digit
  none_more zero a h = refl
  none_more (suc k) a h =
      ap₂ ◌∷◌ (not_more (g a) (eqb m a) (ne_eqb m a (λ e. omega arith))) (none_more k (suc a) (omega arith))

  one-more-from : (k a : ℕ) → a ≤ m → m < a + k → one_more_at (m - a) (map g (up_from a k)) ≡ map (λ n. g n + digit (eqb m n)) (up_from a k)
  unfolding up_from digit
  one-more-from zero a l h = absurd (omega arith)
  one-more-from (suc k) a l h = go (eqb m a) refl (one-more-from k (suc a))
    where
      go : (t : Bool) → eqb m a ≡ t
          → (suc a ≤ m → m < suc a + k → one_more_at (m - suc a) (map g (up_from (suc a) k)) ≡ map (λ n. g n + digit (eqb m n)) (up_from (suc a) k))
          → one_more_at (m - a) (g a ∷ map g (up_from (suc a) k)) ≡ (g a + digit (eqb m a)) ∷ map (λ n. g n + digit (eqb m n)) (up_from (suc a) k)
      go true e others =
          let same = eqb-true m a e in
          let z : m - a ≡ 0 = omega arith in
          rw (z, e, none_more k (suc a) (omega arith))
      go false e others =
          let apart = eqb-false m a e in
          let s : m - a ≡ suc (m - suc a) = omega arith in
          rw s (ap₂ ◌∷◌ (sym (not_more (g a) (eqb m a) e)) (others (omega arith) (omega arith)))

  one_more : 0 < m → m ≤ 9 → one_more_at (m - 1) (map g refusals) ≡ map (λ n. g n + digit (eqb m n)) refusals
  unfolding up_from
  one_more l h = one-more-from 9 1 l (omega arith)

-- ---- lists

map_same : (g h : ℕ → ℕ) → ((n : ℕ) → g n ≡ h n) → (ns : List ℕ) → map g ns ≡ map h ns
map_same g h e [] = refl
map_same g h e (n ∷ ns) = ap₂ ◌∷◌ (e n) (map_same g h e ns)

sum-map-add : (g h : ℕ → ℕ) (ns : List ℕ) → sum (map (λ n. g n + h n) ns) ≡ sum (map g ns) + sum (map h ns)
unfolding sum
sum-map-add g h [] = refl
sum-map-add g h (n ∷ ns) = omega (arith, sum-map-add g h ns)

pub with_append : (n : ℕ) (fs gs : List Frame) → frames_with n (fs ++ gs) ≡ frames_with n fs + frames_with n gs
unfolding frames_with
with_append n [] gs = omega arith
with_append n (f ∷ fs) gs = omega (arith, with_append n fs gs)

pub places-append : (fs gs : List Frame) → places_repaired (fs ++ gs) ≡ places_repaired fs + places_repaired gs
unfolding places_repaired
places-append fs gs = ap sum (map-append (λ f. places_counted (verdict_on f)) fs gs) ∙ sum-append (map (λ f. places_counted (verdict_on f)) fs) (map (λ f. places_counted (verdict_on f)) gs)

-- ---- what holds of every list

-- each frame has one of the ten numbers
every-frame : (fs : List Frame) → length fs ≡ sum (map (λ n. frames_with n fs) refusals) + frames_with 0 fs
unfolding frames_with sum
every-frame [] = refl
every-frame (f ∷ fs) =
    let n = (verdict_on f).number in
    omega (arith, every-frame fs, one_number n (number-most f), sum-map-add (λ m. digit (eqb n m)) (λ m. count (λ g. eqb (verdict_on g).number m) fs) refusals)

-- at most eight places of an accepted frame
eight-each : (fs : List Frame) → places_repaired fs ≤ 8 * frames_with 0 fs
unfolding frames_with places_repaired sum
eight-each [] = omega arith
eight-each (f ∷ fs) = omega (arith, eight-each fs, places-most f)

pub list_counts : (fs : List Frame) → length fs ≤ most_frames → Counts (ledger_of fs)
unfolding ledger_of
list_counts fs h = record { all = every-frame fs; few = h; eight = eight-each fs }

pub list-possible : (fs : List Frame) → length fs ≤ most_frames → possible (ledger_of fs) ≡ true
list-possible fs h = counts-possible (ledger_of fs) (list_counts fs h)

pub list-seen : (fs : List Frame) → (ledger_of fs).seen ≡ length fs
unfolding ledger_of
list-seen fs = refl

pub list-nine : (fs : List Frame) → length (ledger_of fs).refused ≡ 9
unfolding ledger_of
list-nine fs = refl

pub list-none : ledger_of [] ≡ fresh
unfolding ledger_of frames_with places_repaired sum
list-none = refl

-- ---- a frame more

module _ (fs : List Frame) (f : Frame) where
  next-with : (n : ℕ) → frames_with n (fs ++ f ∷ []) ≡ frames_with n fs + digit (eqb (verdict_on f).number n)
  unfolding frames_with
  next-with n = omega (arith, with_append n fs (f ∷ []))

  next-places : places_repaired (fs ++ f ∷ []) ≡ places_repaired fs + places_counted (verdict_on f)
  unfolding places_repaired sum
  next-places = omega (arith, places-append fs (f ∷ []))

  next-seen : length (fs ++ f ∷ []) ≡ length fs + 1
  next-seen = length-append fs (f ∷ [])

  pub list-next : with_verdict (ledger_of fs) (verdict_on f) ≡ ledger_of (fs ++ f ∷ [])
  unfolding ledger_of digit up_from
  list-next = go (eqb (verdict_on f).number 0) refl
    where
      v : Verdict
      v = verdict_on f

      go : (t : Bool) → eqb v.number 0 ≡ t → with_verdict (ledger_of fs) v ≡ ledger_of (fs ++ f ∷ [])
      go true e =
          let z = eqb-true v.number 0 e in
          let kept : map (λ n. frames_with n (fs ++ f ∷ [])) refusals ≡ map (λ n. frames_with n fs) refusals =
          map_same _ _ (λ n. next-with n) refusals ∙ none_more v.number (λ n. frames_with n fs) 9 1 (omega arith) in
          let accepted : frames_with 0 (fs ++ f ∷ []) ≡ frames_with 0 fs + 1 = next-with 0 ∙ ap (λ (t : Bool). frames_with 0 fs + digit t) e in
          sym (with-accepted (ledger_of fs) v (places_counted v) refl z)
          ∙ (λ i.
          record {
            seen = sym next-seen i;
            refused = sym kept i;
            accepted = sym accepted i;
            repaired = sym next-places i;
          })
      go false e =
          let z = eqb-false v.number 0 e in
          sym (with-refused (ledger_of fs) v (places_counted v) refl z)
          ∙ (λ i.
          record {
            seen = sym next-seen i;
            refused = (one_more v.number (λ n. frames_with n fs) (omega arith) (number-most f) ∙ sym (map_same _ _ (λ n. next-with n) refusals)) i;
            accepted = sym (next-with 0 ∙ not_more (frames_with 0 fs) (eqb v.number 0) e) i;
            repaired = sym next-places i;
          })
