-- One turn of the loops over a row of segments. Assumes nothing.
use mathlib.Core.Path.{◌≡◌, refl, sym, ap, ap₂, subst, ◌∙◌}
use mathlib.Core.Bool.{Bool, ◌&&◌, and_assoc, and-true}
use mathlib.Core.List.{List, [], ◌∷◌, ◌++◌, append-nil, append_assoc}
use Prim.Native.Nat.{ℕ, suc, ◌+◌, ◌-◌, ◌*◌, ◌^◌, ◌<◌, ◌≤◌}
use native.Mathlib.Numerals.{add-one}
use native.Mathlib.Omega.{arith}
use Rattle.std.proofs.lemmas.List.{get_or-drop}
use lib.ListN.{length, get_or, take, drop, set, length-set, length-append}
use lib.Seq.{paste, length-take-le, take_at, drop-cons, drop-length, take-suc-set, take_all, drop-drop, append_snoc}
use Rattle.bits.specs.Bits.{value, bits_of, bits}
use Rattle.bits.specs.Field.{put_of}
use Rattle.bits.specs.Layout.{pack, unpack, sum}
use Rattle.bits.specs.declared.Segment.{Segment}
use Rattle.bits.specs.declared.Segment.TheVariants.{Field, Ones, Zeros}
use Rattle.bits.specs.Segment.{width, widths, free_widths, holds, fixed_hold, free, with_fixed, pack_segments, unpack_segments, fixed_bits_hold}
use Rattle.bits.proofs.Segments.{length-widths, widths-drop}
use Rattle.bits.proofs.Bits.{length-bits_of, length-bits}
use Rattle.bits.proofs.Field.{within-room, bits-put_of}
use Rattle.bits.proofs.Layouts.{paste-after, sum-take, sum-next}
use Rattle.segments.specs.Step.{IfField, stored, next_place, segment_value}

-- segment j of a row is g: what is left before and after it, and its width among the widths
pub record At (l : List Segment) (j : ℕ) (g : Segment) : Type 0 where
  pub row : drop j l ≡ g ∷ drop (j + 1) l
  pub inside : j < length (widths l)
  pub wide : get_or (widths l) j 0 ≡ width g

pub segment_at : (l : List Segment) (j : ℕ) (d : Segment) → j < length l → At l j (get_or l j d)
unfolding widths
segment_at l j d h =
    let g = get_or l j d in
    let e : drop j l ≡ g ∷ drop (j + 1) l = rw add-one (drop-cons l j d h) in
    let w : drop j (widths l) ≡ width g ∷ widths (drop (j + 1) l) = sym (widths-drop l j) ∙ ap widths e in
    let n : j + 0 ≡ j = omega arith in
    record {
      row = e;
      inside = omega (arith, length-widths l);
      wide = ap (λ k. get_or (widths l) k 0) (sym n) ∙ sym (get_or-drop j (widths l) 0 0) ∙ ap (λ x. get_or x 0 0) w;
    }

-- the place in bits of the next segment, and that this one finds room
pub place_next : {l : List Segment} {j : ℕ} {g : Segment} (at : ℕ) → At l j g → at ≡ sum (take j (widths l)) → at + width g ≡ sum (take (j + 1) (widths l))
place_next {l} {j} at a e = ap₂ (λ m w. m + w) e (sym a.wide) ∙ sym (sum-take (widths l) j a.inside)

pub place_room : {l : List Segment} {j : ℕ} {g : Segment} (at : ℕ) → At l j g → at ≡ sum (take j (widths l)) → at + width g ≤ sum (widths l)
place_room {l} {j} at a e = omega (arith, e, a.wide, sum-next (widths l) j a.inside)

-- the place of the next field's value, counted on from place i itself, and at most one on
pub place-of : (g : Segment) (i k next : ℕ) → next ≡ next_place g k → k ≡ i → next ≡ next_place g i
place-of g i k next e here = e ∙ ap (next_place g) here

pub place-few : (g : Segment) (i : ℕ) → next_place g i ≤ i + 1
place-few (Field w) i = omega arith
place-few (Ones w) i = omega arith
place-few (Zeros w) i = omega arith

-- nothing is left after the last
no_segments : (l : List Segment) (j : ℕ) → j ≡ length l → drop j l ≡ []
no_segments l j h = ap (λ k. drop k l) h ∙ drop-length l

-- ---- reading

-- the first i of out are the values so far of the row whose values are vs in all; the row l, which the bits bs begin with, is left
pub record ReadSoFar (vs : List ℕ) (i : ℕ) (out : List ℕ) (l : List Segment) (bs : List Bool) : Type 0 where
  pub room : i + length (free_widths l) ≡ length out
  pub values : vs ≡ take i out ++ unpack_segments l bs

read_next : (vs : List ℕ) (g : Segment) (i : ℕ) (out : List ℕ) (l : List Segment) (bs : List Bool) → ReadSoFar vs i out (g ∷ l) bs
    → ReadSoFar vs (next_place g i) (stored g (value (take (width g) bs)) i out) l (drop (width g) bs)
unfolding free_widths free widths unpack
read_next vs (Field w) i out l bs r =
    let h : i < length out = omega (arith, r.room) in
    let n : i + 1 ≡ suc i = add-one i in
    record {
      room = omega (arith, r.room, length-set out i (value (take w bs)));
      values =
          r.values ∙ sym (append_snoc (take i out) (value (take w bs)) (unpack_segments l (drop w bs)))
          ∙ ap (◌++ unpack_segments l (drop w bs)) (sym (ap (λ k. take k (set out i (value (take w bs)))) n ∙ take-suc-set out i (value (take w bs)) h));
    }
read_next vs (Ones w) i out l bs r = record { room = r.room; values = r.values }
read_next vs (Zeros w) i out l bs r = record { room = r.room; values = r.values }

-- there is room for a field's value
room_at : (vs : List ℕ) (g : Segment) (i : ℕ) (out : List ℕ) (l : List Segment) (bs : List Bool) → ReadSoFar vs i out (g ∷ l) bs
    → (i ≤ length out) × IfField g (i < length out)
unfolding free_widths
room_at vs (Field w) i out l bs r = (omega (arith, r.room), omega (arith, r.room))
room_at vs (Ones w) i out l bs r = (omega (arith, r.room), tt)
room_at vs (Zeros w) i out l bs r = (omega (arith, r.room), tt)

pub read-room : {l : List Segment} {j : ℕ} {g : Segment} → At l j g → (vs out : List ℕ) (bs : List Bool) (i : ℕ)
    → ReadSoFar vs i out (drop j l) bs → (i ≤ length out) × IfField g (i < length out)
read-room {l} {j} {g} a vs out bs i r =
    room_at vs g i out (drop (j + 1) l) bs (subst (λ (y : List Segment). ReadSoFar vs i out y bs) a.row r)

-- the loop's turn
pub read-turn : {l : List Segment} {j : ℕ} {g : Segment} → At l j g → (vs out out' : List ℕ) (bs : List Bool) (at i i' : ℕ)
    → i' ≡ next_place g i → out' ≡ stored g (value (take (width g) (drop at bs))) i out
    → ReadSoFar vs i out (drop j l) (drop at bs) → ReadSoFar vs i' out' (drop (j + 1) l) (drop (at + width g) bs)
read-turn {l} {j} {g} a vs out out' bs at i i' p q r =
    let m = drop (j + 1) l in
    let x = read_next vs g i out m (drop at bs) (subst (λ (y : List Segment). ReadSoFar vs i out y (drop at bs)) a.row r) in
    let y = subst (λ (b : List Bool). ReadSoFar vs (next_place g i) (stored g (value (take (width g) (drop at bs))) i out) m b) (drop-drop (width g) at bs) x in
    subst (λ (n : ℕ). ReadSoFar vs n out' m (drop (at + width g) bs)) (sym p)
    (subst (λ (o : List ℕ). ReadSoFar vs (next_place g i) o m (drop (at + width g) bs)) (sym q) y)

-- all of it is read
pub read-end : (l : List Segment) (vs out : List ℕ) (bs : List Bool) (i j : ℕ) → j ≡ length l → ReadSoFar vs i out (drop j l) bs → out ≡ vs
unfolding free_widths free
read-end l vs out bs i j h r =
    let q = subst (λ (y : List Segment). ReadSoFar vs i out y bs) (no_segments l j h) r in
    sym (q.values ∙ append-nil (take i out) ∙ take_all i out (omega (arith, q.room)))

-- ---- the fixed bits

holds-head : (g : Segment) (l : List Segment) (bs : List Bool)
    → fixed_bits_hold (g ∷ l) bs ≡ (holds g (value (take (width g) bs)) && fixed_bits_hold l (drop (width g) bs))
unfolding fixed_hold widths unpack
holds-head g l bs = refl

-- the loop's turn, beside what the segments before came to
pub fixed-turn : {l : List Segment} {j : ℕ} {g : Segment} → At l j g → (bs : List Bool) (at : ℕ) (whole fixed fixed' t : Bool)
    → t ≡ holds g (value (take (width g) (drop at bs))) → fixed' ≡ (fixed && t)
    → whole ≡ (fixed && fixed_bits_hold (drop j l) (drop at bs))
    → whole ≡ (fixed' && fixed_bits_hold (drop (j + 1) l) (drop (at + width g) bs))
fixed-turn {l} {j} {g} a bs at whole fixed fixed' t p q r =
    let m = drop (j + 1) l in
    let rest = fixed_bits_hold m (drop (at + width g) bs) in
    let here : fixed_bits_hold (drop j l) (drop at bs) ≡ (t && rest) =
    ap (λ (y : List Segment). fixed_bits_hold y (drop at bs)) a.row ∙ holds-head g m (drop at bs)
    ∙ ap₂ (λ (x : Bool) (y : List Bool). x && fixed_bits_hold m y) (sym p) (drop-drop (width g) at bs) in
    r ∙ ap (fixed &&◌) here ∙ sym (and_assoc fixed t rest) ∙ ap (◌&& rest) (sym q)

pub fixed-end : (l : List Segment) (bs : List Bool) (j : ℕ) (whole fixed : Bool) → j ≡ length l
    → whole ≡ (fixed && fixed_bits_hold (drop j l) bs) → fixed ≡ whole
unfolding fixed_hold widths unpack
fixed-end l bs j whole fixed h r =
    sym (r ∙ ap (fixed &&◌) (ap (λ (y : List Segment). fixed_bits_hold y bs) (no_segments l j h)) ∙ and-true fixed)

-- ---- writing

-- the bits so far, of a row whose bits are whole in all; the row l is left, and its values stand in vs from place i on
pub record WrittenSoFar (whole sofar : List Bool) (vs : List ℕ) (i : ℕ) (l : List Segment) : Type 0 where
  pub count : i + length (free_widths l) ≡ length vs
  pub row : whole ≡ sofar ++ pack_segments l (drop i vs)

room_left : (whole sofar : List Bool) (vs : List ℕ) (g : Segment) (i : ℕ) (l : List Segment) → WrittenSoFar whole sofar vs i (g ∷ l)
    → (i ≤ length vs) × IfField g (i < length vs)
unfolding free_widths
room_left whole sofar vs (Field w) i l r = (omega (arith, r.count), omega (arith, r.count))
room_left whole sofar vs (Ones w) i l r = (omega (arith, r.count), tt)
room_left whole sofar vs (Zeros w) i l r = (omega (arith, r.count), tt)

pub write-room : {l : List Segment} {j : ℕ} {g : Segment} → At l j g → (whole sofar : List Bool) (vs : List ℕ) (i : ℕ)
    → WrittenSoFar whole sofar vs i (drop j l) → (i ≤ length vs) × IfField g (i < length vs)
write-room {l} {j} {g} a whole sofar vs i r =
    room_left whole sofar vs g i (drop (j + 1) l) (subst (λ (y : List Segment). WrittenSoFar whole sofar vs i y) a.row r)

write_next : (whole sofar : List Bool) (vs : List ℕ) (g : Segment) (i : ℕ) (l : List Segment) → WrittenSoFar whole sofar vs i (g ∷ l)
    → WrittenSoFar whole (sofar ++ bits_of (width g) (segment_value g i vs)) vs (next_place g i) l
unfolding free_widths with_fixed widths pack
write_next whole sofar vs (Field w) i l r =
    let n : i + 1 ≡ suc i = add-one i in
    record {
      count = omega (arith, r.count);
      row =
          r.row ∙ ap (λ (x : List ℕ). sofar ++ pack_segments (Field w ∷ l) x) (drop-cons vs i 0 (omega (arith, r.count)))
          ∙ sym (append_assoc sofar (bits_of w (get_or vs i 0)) (pack_segments l (drop (suc i) vs)))
          ∙ ap (λ (m : ℕ). (sofar ++ bits_of w (get_or vs i 0)) ++ pack_segments l (drop m vs)) (sym n);
    }
write_next whole sofar vs (Ones w) i l r =
    record { count = r.count; row = r.row ∙ sym (append_assoc sofar (bits_of w (2 ^ w - 1)) (pack_segments l (drop i vs))) }
write_next whole sofar vs (Zeros w) i l r =
    record { count = r.count; row = r.row ∙ sym (append_assoc sofar (bits_of w 0) (pack_segments l (drop i vs))) }

-- the loop's turn
pub write-turn : {l : List Segment} {j : ℕ} {g : Segment} → At l j g → (whole sofar sofar' : List Bool) (vs : List ℕ) (v i i' : ℕ)
    → v ≡ segment_value g i vs → i' ≡ next_place g i → sofar ++ bits_of (width g) v ≡ sofar'
    → WrittenSoFar whole sofar vs i (drop j l) → WrittenSoFar whole sofar' vs i' (drop (j + 1) l)
write-turn {l} {j} {g} a whole sofar sofar' vs v i i' p q z r =
    let m = drop (j + 1) l in
    let x = write_next whole sofar vs g i m (subst (λ (y : List Segment). WrittenSoFar whole sofar vs i y) a.row r) in
    let y = subst (λ (u : ℕ). WrittenSoFar whole (sofar ++ bits_of (width g) u) vs (next_place g i) m) (sym p) x in
    subst (λ (n : ℕ). WrittenSoFar whole sofar' vs n m) (sym q) (subst (λ (b : List Bool). WrittenSoFar whole b vs (next_place g i) m) z y)

pub write-end : (l : List Segment) (whole sofar : List Bool) (vs : List ℕ) (i j : ℕ) → j ≡ length l
    → WrittenSoFar whole sofar vs i (drop j l) → whole ≡ sofar
unfolding with_fixed widths pack
write-end l whole sofar vs i j h r =
    (subst (λ (y : List Segment). WrittenSoFar whole sofar vs i y) (no_segments l j h) r).row ∙ append-nil sofar

-- a buffer whose bits so far are written and whose others are those of the buffer before, after one more field
pub put-turn : (buf buf' before : List ℕ) (at w v : ℕ) → length buf ≡ length before → at + w ≤ 8 * length before → w ≤ 64 → buf' ≡ put_of buf at w v
    → bits buf ≡ take at (bits buf) ++ drop at (bits before)
    → (take at (bits buf) ++ bits_of w v ≡ take (at + w) (bits buf')) × (bits buf' ≡ take (at + w) (bits buf') ++ drop (at + w) (bits before))
put-turn buf buf' before at w v e r n p h =
    let q = take at (bits buf) in
    let lq : length q ≡ at = length-take-le at (bits buf) (rw length-bits (omega arith)) in
    let f : bits buf' ≡ (q ++ bits_of w v) ++ drop (at + w) (bits before) =
    ap bits p ∙ bits-put_of buf at w v (within-room (length buf) at w n (omega arith)) ∙ ap (λ (l : List Bool). paste l at (bits_of w v) w) h
    ∙ paste-after q (bits before) at w v lq (rw length-bits r) in
    let t : take (at + w) (bits buf') ≡ q ++ bits_of w v =
    ap (take (at + w)) f ∙ take_at (q ++ bits_of w v) (drop (at + w) (bits before)) (at + w) (rw (length-append, length-bits_of, lq)) in
    (sym t, f ∙ ap (◌++ drop (at + w) (bits before)) (sym t))
