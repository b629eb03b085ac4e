-- Runs of values taken out of a list and put into one. Assumes nothing.
use mathlib.Core.Path.{◌≡◌, refl, sym, ap, ap₂, ◌∙◌}
use mathlib.Core.Bool.{◌||◌}
use mathlib.Core.List.{List, [], ◌∷◌, ◌++◌, append-nil}
use Prim.Native.Nat.{ℕ, zero, suc, ◌+◌, ◌*◌, ◌≤◌, ◌<◌}
use native.Mathlib.Nat.{suc_inj, mul-suc}
use native.Mathlib.Numerals.{add-one}
use native.Mathlib.Omega.{arith}
use lib.Dec.{eqb}
use borrow.Rule.Slice.PartMut.{put_mid}
use Rattle.std.specs.List.{list_any}
use Rattle.std.proofs.lemmas.Slice.{put_mid-paste}
use Rattle.std.proofs.lemmas.Bool.Decides.{nat_tests}
use lib.ListN.{length, get_or, take, drop, set, length-append}
use lib.Seq.{paste, paste-suc, take_at, take_all, drop-cons, drop-drop, drop-length, drop-append-add, set_at, append_snoc}
use Rattle.gf2.specs.Polynomial.{member}
use Rattle.header.specs.Fields.{run, pairs}
use Rattle.header.proofs.Fields.{length_run}
use Rattle.header_arrays.specs.Placed.{placed}

-- ---- a run

pub run-snoc : (v : List ℕ) (k d n : ℕ) → run v k d (suc n) ≡ run v k d n ++ get_or v (k + d * n) 0 ∷ []
unfolding run
run-snoc v k d zero =
    let e : k ≡ k + d * 0 = omega arith in
    ap (λ (i : ℕ). get_or v i 0 ∷ []) e
run-snoc v k d (suc n) =
    let e : k + d + d * n ≡ k + d * suc n = omega (arith, mul-suc d n) in
    ap (get_or v k 0 ∷◌) (run-snoc v (k + d) d n ∙ ap (λ (i : ℕ). run v (k + d) d n ++ get_or v i 0 ∷ []) e)

-- a turn of the loop that takes a run, and the next place
pub run-turn : (v out : List ℕ) (k d i : ℕ) → i < length out
    → set (run v k d i ++ drop i out) i (get_or v (k + d * i) 0) ≡ run v k d (i + 1) ++ drop (i + 1) out
run-turn v out k d i h =
    let x = get_or v (k + d * i) 0 in
    rw (add-one, drop-cons out i 0 h, run-snoc)
    (set_at (run v k d i) (get_or out i 0) (drop (suc i) out) x i (length_run v k d i) ∙ sym (append_snoc (run v k d i) x (drop (suc i) out)))

pub place-next : (k d i at : ℕ) → at ≡ k + d * i → at + d ≡ k + d * (i + 1)
place-next k d i at e = rw add-one (omega (arith, mul-suc d i))

-- ---- values after each other

-- the other laws cite this one
pub placed-paste : (o : List ℕ) (k : ℕ) (s : List ℕ) → placed o k s ≡ paste o k s (length s)
unfolding placed
placed-paste o k s = refl

-- as std writes n values into a part of a list
pub placed_part : (o : List ℕ) (k n : ℕ) (s written : List ℕ) → written ≡ s → n ≡ length s → put_mid k n o written ≡ placed o k s
placed_part o k n s written same size = put_mid-paste k n o written s (length s) same (sym size) refl ∙ sym (placed-paste o k s)

-- ---- pairs

pub length_pairs : (s t : List ℕ) → length (pairs s t) ≡ 2 * length s
unfolding pairs
length_pairs [] t = refl
length_pairs (x ∷ s) [] = omega (arith, length_pairs s [])
length_pairs (x ∷ s) (y ∷ t) = omega (arith, length_pairs s t)

-- element i of both lists
pairs-at : (s t : List ℕ) (i : ℕ) → length t ≡ length s → i < length s
    → (get_or (pairs s t) (2 * i) 0 ≡ get_or s i 0) × (get_or (pairs s t) (suc (2 * i)) 0 ≡ get_or t i 0)
unfolding pairs
pairs-at [] t i e h = absurd (omega arith)
pairs-at (x ∷ s) [] i e h = absurd (omega arith)
pairs-at (x ∷ s) (y ∷ t) zero e h = (refl, refl)
pairs-at (x ∷ s) (y ∷ t) (suc i) e h =
    let n : 2 * suc i ≡ suc (suc (2 * i)) = omega arith in
    let r = pairs-at s t i (suc_inj e) (omega arith) in
    (ap (λ (j : ℕ). get_or (x ∷ y ∷ pairs s t) j 0) n ∙ r.0, ap (λ (j : ℕ). get_or (x ∷ y ∷ pairs s t) (suc j) 0) n ∙ r.1)

pub pairs-turn : (o s t : List ℕ) (k i : ℕ) → length t ≡ length s → i < length s → k + 2 * length s ≤ length o
    → set (set (paste o k (pairs s t) (2 * i)) (k + 2 * i) (get_or s i 0)) (k + 2 * i + 1) (get_or t i 0) ≡ paste o k (pairs s t) (2 * (i + 1))
pairs-turn o s t k i e h r =
    let p = pairs s t in
    let l = length_pairs s t in
    let a = pairs-at s t i e h in
    let m : k + 2 * i + 1 ≡ k + suc (2 * i) = omega arith in
    let n : suc (suc (2 * i)) ≡ 2 * (i + 1) = omega arith in
    let one : set (paste o k p (2 * i)) (k + 2 * i) (get_or s i 0) ≡ paste o k p (suc (2 * i)) =
    ap (set (paste o k p (2 * i)) (k + 2 * i)) (sym a.0) ∙ paste-suc o k p (2 * i) 0 (omega arith) (omega arith) in
    let two : set (paste o k p (suc (2 * i))) (k + suc (2 * i)) (get_or t i 0) ≡ paste o k p (suc (suc (2 * i))) =
    ap (set (paste o k p (suc (2 * i))) (k + suc (2 * i))) (sym a.1) ∙ paste-suc o k p (suc (2 * i)) 0 (omega arith) (omega arith) in
    ap₂ (λ (l : List ℕ) (j : ℕ). set l j (get_or t i 0)) one m ∙ two ∙ ap (paste o k p) n

-- ---- a list that is filled from the front: the first k values of v are p, and the others those of z

pub record Filled (p z v : List ℕ) (k : ℕ) : Type 0 where
  pub is : v ≡ p ++ drop k z
  pub long : length p ≡ k

pub filled_none : (z : List ℕ) → Filled [] z z 0
filled_none z = record { is = refl; long = refl }

-- one value more
pub filled-one : {p z v : List ℕ} {k : ℕ} (x : ℕ) → Filled p z v k → k < length z → Filled (p ++ x ∷ []) z (set v k x) (k + 1)
filled-one {p} {z} {v} {k} x f h =
    record {
      is =
          ap (λ (l : List ℕ). set l k x) f.is
          ∙ rw (add-one, drop-cons z k 0 h)
          (set_at p (get_or z k 0) (drop (suc k) z) x k f.long ∙ sym (append_snoc p x (drop (suc k) z)));
      long = length-append p (x ∷ []) ∙ ap (◌+ 1) f.long;
    }

-- n values more
pub filled_row : {p z v : List ℕ} {k : ℕ} (x w : List ℕ) (n : ℕ) → Filled p z v k → w ≡ placed v k x → length x ≡ n → Filled (p ++ x) z w (k + n)
filled_row {p} {z} {v} {k} x w n f h o =
    let t : take n x ≡ x = take_all n x (omega arith) in
    let d : drop (k + n) (p ++ drop k z) ≡ drop (k + n) z =
    ap (λ (i : ℕ). drop (i + n) (p ++ drop k z)) (sym f.long) ∙ drop-append-add p (drop k z) n ∙ drop-drop n k z in
    record {
      is = h ∙ placed-paste v k x ∙ ap₂ (λ (l : List ℕ) (i : ℕ). paste l k x i) f.is o ∙ rw (take_at p (drop k z) k f.long, t, d);
      long = length-append p x ∙ ap₂ (λ (i j : ℕ). i + j) f.long o;
    }

-- n values of each of two lists, in turn
pub filled-pairs : {p z v : List ℕ} {k : ℕ} (s t w : List ℕ) (n : ℕ) → Filled p z v k → w ≡ placed v k (pairs s t) → length s ≡ n
    → Filled (p ++ pairs s t) z w (k + 2 * n)
filled-pairs s t w n f h e = filled_row (pairs s t) w (2 * n) f h (length_pairs s t ∙ ap (2 *◌) e)

pub filled-all : {p z v : List ℕ} {k : ℕ} → Filled p z v k → length z ≡ k → v ≡ p
filled-all {p} {z} {v} {k} f e = f.is ∙ ap (p ++◌) (ap (λ (n : ℕ). drop n z) (sym e) ∙ drop-length z) ∙ append-nil p

-- ---- a search

eqb_swap : (x y : ℕ) → eqb x y ≡ eqb y x
eqb_swap x y = grind (arith, nat_tests)

-- a search from the left, as `contains` does it
pub member_any : (x : ℕ) (v : List ℕ) → member x v ≡ list_any (λ y. eqb y x) v
unfolding member
member_any x [] = refl
member_any x (y ∷ v) = ap₂ (◌||◌) (eqb_swap x y) (member_any x v)
