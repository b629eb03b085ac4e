-- The 204 bits as values, and a header with other ones. Assumes nothing.
use mathlib.Core.Path.{◌≡◌, refl, sym, ap, ap₂, subst, ◌∙◌}
use mathlib.Core.Bool.{Bool, true}
use mathlib.Core.List.{List, [], ◌∷◌, ◌++◌, append_assoc}
use Prim.Native.Nat.{ℕ, ◌+◌, ◌*◌, ◌≤◌}
use native.Mathlib.Omega.{arith}
use lib.ListN.{length, take, drop, replicate, length-append, length-drop, take-append-drop}
use lib.Seq.{length-take-le, take_at, take-add, drop-append-le}
use Rattle.bits.specs.Bits.{odd, value, bits_of, bits, bytes, Bytes}
use Rattle.bits.specs.Layout.{pack, unpack, sum, Layout}
use Rattle.bits.specs.Segment.{free_widths}
use Rattle.bits.proofs.Bits.{length-bytes, length-bits, bits-take, bits_of-value}
use Rattle.bits.proofs.Layouts.{length-pack, layoutb-layout}
use Rattle.header.specs.Header.{sealed}
use Rattle.header.specs.Layout.{extension_layout}
use Rattle.header_laying.specs.Laying.{with_ac}
use Rattle.header.proofs.Parts.{written-part}
use Rattle.header_tables.specs.AcTables.{ac_widths, ac_ones}
use Rattle.header_inserter.specs.AcBits.{with_first}

-- ---- the widths

pub ac-sum : sum ac_widths ≡ 204
unfolding extension_layout free_widths sum
ac-sum = refl

layout-26 : Layout ac_widths 26
unfolding extension_layout free_widths sum
layout-26 = layoutb-layout ac_widths 26 refl

layout-89 : Layout ac_widths 89
unfolding extension_layout free_widths sum
layout-89 = layoutb-layout ac_widths 89 refl

ac-count : length ac_widths ≡ 26
unfolding extension_layout free_widths
ac-count = refl

-- a frame and the part that starts at byte 99 have room for them
room : (n : ℕ) → Layout ac_widths n → (ws : List ℕ) (k m : ℕ) → ws ≡ ac_widths → k ≡ n → m ≡ 26 → Layout ws k × (m ≡ length ws)
room n l ws k m e p q = (subst (λ (x : List ℕ). Layout x k) (sym e) (subst (Layout ac_widths) (sym p) l), q ∙ sym (ap length e ∙ ac-count))

pub frame-room : (ws : List ℕ) (k m : ℕ) → ws ≡ ac_widths → k ≡ 26 → m ≡ 26 → Layout ws k × (m ≡ length ws)
frame-room = room 26 layout-26

pub part_room : (ws : List ℕ) (k m : ℕ) → ws ≡ ac_widths → k ≡ 89 → m ≡ 26 → Layout ws k × (m ≡ length ws)
part_room = room 89 layout-89

pub all_ones : pack ac_widths ac_ones ≡ replicate 204 true
unfolding extension_layout free_widths ac_ones pack bits_of odd
all_ones = refl

-- ---- values read and packed again are the first bits

pack-first : (ws : List ℕ) (bs : List Bool) → sum ws ≤ length bs → pack ws (unpack ws bs) ≡ take (sum ws) bs
unfolding pack unpack sum
pack-first [] bs h = refl
pack-first (w ∷ ws) bs h =
    let l : length (take w bs) ≡ w = length-take-le w bs (omega arith) in
    ap₂ (λ (x y : List Bool). x ++ y) (ap (λ (n : ℕ). bits_of n (value (take w bs))) (sym l) ∙ bits_of-value (take w bs))
    (pack-first ws (drop w bs) (omega (arith, length-drop w bs)))
    ∙ sym (take-add w (sum ws) bs)

pub frame-first : (f : List ℕ) → length f ≡ 26 → pack ac_widths (unpack ac_widths (bits f)) ≡ take 204 (bits f)
frame-first f e =
    pack-first ac_widths (bits f) (omega (arith, length-bits f, ac-sum)) ∙ ap (λ (n : ℕ). take n (bits f)) ac-sum

-- ---- the part that starts at byte 99

-- after its first 204 bits are written
pub part-written : (ws vs s t : List ℕ) → ws ≡ ac_widths → length s ≡ 89 → length t ≡ length s → Bytes s → Bytes t
    → bits t ≡ pack ws vs ++ drop (sum ws) (bits s) → t ≡ with_first (pack ac_widths vs) s
part-written ws vs s t w ls lt bs bt q =
    let e : bits t ≡ pack ac_widths vs ++ drop (sum ac_widths) (bits s) = q ∙ ap (λ (x : List ℕ). pack x vs ++ drop (sum x) (bits s)) w in
    let a = pack ac_widths vs in
    let p = bits (take 85 s) in
    let lp : length p ≡ 680 = length-bits (take 85 s) ∙ ap (8 *◌) (length-take-le 85 s (omega arith)) in
    let la : length a ≡ 204 = length-pack ac_widths vs ∙ ac-sum in
    let split : drop 204 (bits s) ≡ drop 204 p ++ drop 680 (bits s) =
    ap (drop 204) (sym (take-append-drop 680 (bits s)) ∙ ap (◌++ drop 680 (bits s)) (bits-take 85 s (omega arith)))
    ∙ drop-append-le 204 p (drop 680 (bits s)) (omega arith) in
    let long : length (a ++ drop 204 p) ≡ 680 = length-append a (drop 204 p) ∙ omega (arith, length-drop 204 p) in
    written-part 85 (a ++ drop 204 p) s t (omega arith) lt bs bt long
    (e ∙ ap (λ (n : ℕ). a ++ drop n (bits s)) ac-sum ∙ ap (a ++◌) split ∙ sym (append_assoc a (drop 204 p) (drop 680 (bits s))))

-- ---- the header

pub header-written : (h v w : List ℕ) (bs : List Bool) → length h ≡ 188 → v ≡ take 99 h ++ with_first bs (drop 99 h) → w ≡ sealed (take 184 v) → w ≡ with_ac h bs
unfolding with_ac
header-written h v w bs l e q =
    let x = take 99 h in
    let y = bytes 85 (bs ++ drop 204 (bits (take 85 (drop 99 h)))) in
    let z = drop 85 (drop 99 h) in
    let lx : length x ≡ 99 = length-take-le 99 h (omega arith) in
    let ly : length y ≡ 85 = length-bytes 85 (bs ++ drop 204 (bits (take 85 (drop 99 h)))) in
    let long : length (x ++ y) ≡ 184 = length-append x y ∙ ap₂ (λ (a b : ℕ). a + b) lx ly in
    q ∙ ap sealed (ap (take 184) (e ∙ sym (append_assoc x y z)) ∙ take_at (x ++ y) z 184 long)
