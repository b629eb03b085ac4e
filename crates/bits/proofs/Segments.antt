-- Laws of layouts with fixed bits.
-- Assumes nothing.
use mathlib.Core.Path.{◌≡◌, refl, sym, ap, ap₂, ◌∙◌}
use mathlib.Core.Bool.{Bool, true, false, cond, ◌&&◌, false≢true, and-eq-true_iff, and_assoc}
use mathlib.Core.List.{List, [], ◌∷◌, ◌++◌}
use Prim.Native.Nat.{ℕ, zero, suc, ◌-◌, ◌*◌, ◌^◌, ◌<◌, min}
use native.Mathlib.Nat.{suc_inj, not-suc-le-zero, le_of_suc-le-suc}
use native.Mathlib.Omega.{arith}
use lib.Dec.{eqb}
use borrow.Author.Tests.{eqb-true, eq-eqb}
use lib.ListN.{length, get_or, drop}
use lib.Pow.{pow_pos, ones_lt}
use Rattle.bits.specs.Bits.{bits, bytes, Bytes}
use Rattle.bits.specs.Layout.{pack, unpack, sum, Fit}
use Rattle.bits.specs.declared.Segment.{Segment}
use Rattle.bits.specs.declared.Segment.TheVariants.{Field, Ones, Zeros}
use Rattle.bits.specs.Segment.{width, widths, free_widths, holds, fixed_hold, free, with_fixed, pack_segments, unpack_segments, fixed_bits_hold}
use Rattle.bits.proofs.Bits.{length-bits, bits-bytes, bytes-bits}
use Rattle.bits.proofs.Layouts.{length-pack, unpack-pack, pack-unpack, fit-unpack, length-fit, length-unpack, unpack-append, pack-append}

pub length-widths : (l : List Segment) → length (widths l) ≡ length l
unfolding widths
length-widths [] = refl
length-widths (g ∷ l) = ap suc (length-widths l)

-- ---- the fields' values and the values of all segments

pub length-with_fixed : (l : List Segment) (vs : List ℕ) → length (with_fixed l vs) ≡ length l
unfolding with_fixed
length-with_fixed [] vs = refl
length-with_fixed (Field w ∷ l) [] = ap suc (length-with_fixed l [])
length-with_fixed (Field w ∷ l) (v ∷ vs) = ap suc (length-with_fixed l vs)
length-with_fixed (Ones w ∷ l) vs = ap suc (length-with_fixed l vs)
length-with_fixed (Zeros w ∷ l) vs = ap suc (length-with_fixed l vs)

pub length-free : (l : List Segment) (vs : List ℕ) → length vs ≡ length l → length (free l vs) ≡ length (free_widths l)
unfolding free free_widths
length-free [] vs e = refl
length-free (g ∷ l) [] e = absurd (omega arith)
length-free (Field w ∷ l) (v ∷ vs) e = ap suc (length-free l vs (suc_inj e))
length-free (Ones w ∷ l) (v ∷ vs) e = length-free l vs (suc_inj e)
length-free (Zeros w ∷ l) (v ∷ vs) e = length-free l vs (suc_inj e)

pub free-with_fixed : (l : List Segment) (vs : List ℕ) → length vs ≡ length (free_widths l) → free l (with_fixed l vs) ≡ vs
unfolding free with_fixed free_widths
free-with_fixed [] [] e = refl
free-with_fixed [] (v ∷ vs) e = absurd (omega arith)
free-with_fixed (Field w ∷ l) [] e = absurd (omega arith)
free-with_fixed (Field w ∷ l) (v ∷ vs) e = ap (λ (x : List ℕ). v ∷ x) (free-with_fixed l vs (suc_inj e))
free-with_fixed (Ones w ∷ l) vs e = free-with_fixed l vs e
free-with_fixed (Zeros w ∷ l) vs e = free-with_fixed l vs e

pub with_fixed-free : (l : List Segment) (vs : List ℕ) → fixed_hold l vs ≡ true → with_fixed l (free l vs) ≡ vs
unfolding free with_fixed fixed_hold
with_fixed-free [] [] e = refl
with_fixed-free [] (v ∷ vs) e = absurd (false≢true e)
with_fixed-free (g ∷ l) [] e = absurd (false≢true e)
with_fixed-free (Field w ∷ l) (v ∷ vs) e = ap (λ (x : List ℕ). v ∷ x) (with_fixed-free l vs e)
with_fixed-free (Ones w ∷ l) (v ∷ vs) e =
    let h = (and-eq-true_iff (eqb v (2 ^ w - 1)) (fixed_hold l vs)).0 e in
    ap₂ (λ (y : ℕ) (x : List ℕ). y ∷ x) (sym (eqb-true v (2 ^ w - 1) h.0)) (with_fixed-free l vs h.1)
with_fixed-free (Zeros w ∷ l) (v ∷ vs) e =
    let h = (and-eq-true_iff (eqb v 0) (fixed_hold l vs)).0 e in
    ap₂ (λ (y : ℕ) (x : List ℕ). y ∷ x) (sym (eqb-true v 0 h.0)) (with_fixed-free l vs h.1)

pub fixed_hold-with_fixed : (l : List Segment) (vs : List ℕ) → fixed_hold l (with_fixed l vs) ≡ true
unfolding with_fixed fixed_hold
fixed_hold-with_fixed [] vs = refl
fixed_hold-with_fixed (Field w ∷ l) [] = fixed_hold-with_fixed l []
fixed_hold-with_fixed (Field w ∷ l) (v ∷ vs) = fixed_hold-with_fixed l vs
fixed_hold-with_fixed (Ones w ∷ l) vs =
    ap (λ (t : Bool). t && fixed_hold l (with_fixed l vs)) (eq-eqb (2 ^ w - 1) (2 ^ w - 1) refl) ∙ fixed_hold-with_fixed l vs
fixed_hold-with_fixed (Zeros w ∷ l) vs = fixed_hold-with_fixed l vs

-- values that fit the fields fit with the fixed ones among them, and back
pub fit-with_fixed : (l : List Segment) (vs : List ℕ) → Fit (free_widths l) vs → Fit (widths l) (with_fixed l vs)
unfolding with_fixed widths free_widths
fit-with_fixed [] vs f = tt
fit-with_fixed (Field w ∷ l) [] f = absurd f
fit-with_fixed (Field w ∷ l) (v ∷ vs) f = (f.0, fit-with_fixed l vs f.1)
fit-with_fixed (Ones w ∷ l) vs f = (ones_lt w, fit-with_fixed l vs f)
fit-with_fixed (Zeros w ∷ l) vs f = (pow_pos w, fit-with_fixed l vs f)

pub fit_free : (l : List Segment) (vs : List ℕ) → Fit (widths l) vs → Fit (free_widths l) (free l vs)
unfolding free widths free_widths
fit_free [] vs f = tt
fit_free (g ∷ l) [] f = absurd f
fit_free (Field w ∷ l) (v ∷ vs) f = (f.0, fit_free l vs f.1)
fit_free (Ones w ∷ l) (v ∷ vs) f = fit_free l vs f.1
fit_free (Zeros w ∷ l) (v ∷ vs) f = fit_free l vs f.1

-- ---- a whole layout

pub length-pack_segments : (l : List Segment) (vs : List ℕ) → length (pack_segments l vs) ≡ sum (widths l)
length-pack_segments l vs = length-pack (widths l) (with_fixed l vs)

-- values that fit, packed and unpacked
pub unpack-pack_segments : (l : List Segment) (vs : List ℕ) → Fit (free_widths l) vs → unpack_segments l (pack_segments l vs) ≡ vs
unpack-pack_segments l vs f =
    ap (free l) (unpack-pack (widths l) (with_fixed l vs) (fit-with_fixed l vs f)) ∙ free-with_fixed l vs (length-fit (free_widths l) vs f)

-- what is packed has its fixed bits
pub fixed-pack_segments : (l : List Segment) (vs : List ℕ) → Fit (free_widths l) vs → fixed_bits_hold l (pack_segments l vs) ≡ true
fixed-pack_segments l vs f =
    ap (fixed_hold l) (unpack-pack (widths l) (with_fixed l vs) (fit-with_fixed l vs f)) ∙ fixed_hold-with_fixed l vs

-- bits whose fixed ones hold, unpacked and packed
pub pack-unpack_segments : (l : List Segment) (bs : List Bool) → length bs ≡ sum (widths l) → fixed_bits_hold l bs ≡ true → pack_segments l (unpack_segments l bs) ≡ bs
pack-unpack_segments l bs e h = ap (pack (widths l)) (with_fixed-free l (unpack (widths l) bs) h) ∙ pack-unpack (widths l) bs e

-- what is unpacked fits
pub fit-unpack_segments : (l : List Segment) (bs : List Bool) → Fit (free_widths l) (unpack_segments l bs)
fit-unpack_segments l bs = fit_free l (unpack (widths l) bs) (fit-unpack (widths l) bs)

-- ---- the same over whole bytes

pub unpack-bytes-pack_segments : (l : List Segment) (vs : List ℕ) (n : ℕ) → sum (widths l) ≡ 8 * n → Fit (free_widths l) vs
    → unpack_segments l (bits (bytes n (pack_segments l vs))) ≡ vs
unpack-bytes-pack_segments l vs n e f = ap (unpack_segments l) (bits-bytes n (pack_segments l vs) (length-pack_segments l vs ∙ e)) ∙ unpack-pack_segments l vs f

pub bytes-pack-unpack_segments : (l : List Segment) (s : List ℕ) → sum (widths l) ≡ 8 * length s → Bytes s → fixed_bits_hold l (bits s) ≡ true
    → bytes (length s) (pack_segments l (unpack_segments l (bits s))) ≡ s
bytes-pack-unpack_segments l s e b h = ap (bytes (length s)) (pack-unpack_segments l (bits s) (length-bits s ∙ sym e) h) ∙ bytes-bits s b

-- ---- a layout in two parts

pub widths-append : (l m : List Segment) → widths (l ++ m) ≡ widths l ++ widths m
unfolding widths
widths-append [] m = refl
widths-append (g ∷ l) m = ap (λ (x : List ℕ). width g ∷ x) (widths-append l m)

pub free_widths-append : (l m : List Segment) → free_widths (l ++ m) ≡ free_widths l ++ free_widths m
unfolding free_widths
free_widths-append [] m = refl
free_widths-append (Field w ∷ l) m = ap (λ (x : List ℕ). w ∷ x) (free_widths-append l m)
free_widths-append (Ones w ∷ l) m = free_widths-append l m
free_widths-append (Zeros w ∷ l) m = free_widths-append l m

pub free-append : (l m : List Segment) (vs us : List ℕ) → length vs ≡ length l → free (l ++ m) (vs ++ us) ≡ free l vs ++ free m us
unfolding free
free-append [] m [] us e = refl
free-append [] m (v ∷ vs) us e = absurd (omega arith)
free-append (g ∷ l) m [] us e = absurd (omega arith)
free-append (Field w ∷ l) m (v ∷ vs) us e = ap (λ (x : List ℕ). v ∷ x) (free-append l m vs us (suc_inj e))
free-append (Ones w ∷ l) m (v ∷ vs) us e = free-append l m vs us (suc_inj e)
free-append (Zeros w ∷ l) m (v ∷ vs) us e = free-append l m vs us (suc_inj e)

pub with_fixed-append : (l m : List Segment) (vs us : List ℕ) → length vs ≡ length (free_widths l) → with_fixed (l ++ m) (vs ++ us) ≡ with_fixed l vs ++ with_fixed m us
unfolding with_fixed free_widths
with_fixed-append [] m [] us e = refl
with_fixed-append [] m (v ∷ vs) us e = absurd (omega arith)
with_fixed-append (Field w ∷ l) m [] us e = absurd (omega arith)
with_fixed-append (Field w ∷ l) m (v ∷ vs) us e = ap (λ (x : List ℕ). v ∷ x) (with_fixed-append l m vs us (suc_inj e))
with_fixed-append (Ones w ∷ l) m vs us e = ap (λ (x : List ℕ). (2 ^ w - 1) ∷ x) (with_fixed-append l m vs us e)
with_fixed-append (Zeros w ∷ l) m vs us e = ap (λ (x : List ℕ). 0 ∷ x) (with_fixed-append l m vs us e)

pub fixed_hold-append : (l m : List Segment) (vs us : List ℕ) → length vs ≡ length l → fixed_hold (l ++ m) (vs ++ us) ≡ (fixed_hold l vs && fixed_hold m us)
unfolding fixed_hold
fixed_hold-append [] m [] us e = refl
fixed_hold-append [] m (v ∷ vs) us e = absurd (omega arith)
fixed_hold-append (g ∷ l) m [] us e = absurd (omega arith)
fixed_hold-append (g ∷ l) m (v ∷ vs) us e =
    ap (λ (t : Bool). holds g v && t) (fixed_hold-append l m vs us (suc_inj e)) ∙ sym (and_assoc (holds g v) (fixed_hold l vs) (fixed_hold m us))

unpack-widths : (l m : List Segment) (bs : List Bool) → unpack (widths (l ++ m)) bs ≡ unpack (widths l) bs ++ unpack (widths m) (drop (sum (widths l)) bs)
unpack-widths l m bs = ap (λ (ws : List ℕ). unpack ws bs) (widths-append l m) ∙ unpack-append (widths l) (widths m) bs

pub pack_segments-append : (l m : List Segment) (vs us : List ℕ) → length vs ≡ length (free_widths l)
    → pack_segments (l ++ m) (vs ++ us) ≡ pack_segments l vs ++ pack_segments m us
pack_segments-append l m vs us e =
    ap₂ pack (widths-append l m) (with_fixed-append l m vs us e)
    ∙ pack-append (widths l) (widths m) (with_fixed l vs) (with_fixed m us) (length-with_fixed l vs ∙ sym (length-widths l))

pub unpack_segments-append : (l m : List Segment) (bs : List Bool) → unpack_segments (l ++ m) bs ≡ unpack_segments l bs ++ unpack_segments m (drop (sum (widths l)) bs)
unpack_segments-append l m bs =
    ap (free (l ++ m)) (unpack-widths l m bs)
    ∙ free-append l m (unpack (widths l) bs) (unpack (widths m) (drop (sum (widths l)) bs)) (length-unpack (widths l) bs ∙ length-widths l)

pub fixed_bits_hold-append : (l m : List Segment) (bs : List Bool) → fixed_bits_hold (l ++ m) bs ≡ (fixed_bits_hold l bs && fixed_bits_hold m (drop (sum (widths l)) bs))
fixed_bits_hold-append l m bs =
    ap (fixed_hold (l ++ m)) (unpack-widths l m bs)
    ∙ fixed_hold-append l m (unpack (widths l) bs) (unpack (widths m) (drop (sum (widths l)) bs)) (length-unpack (widths l) bs ∙ length-widths l)

-- ---- a segment of a row

-- what is left of a row has the widths that are left
pub widths-drop : (l : List Segment) (j : ℕ) → widths (drop j l) ≡ drop j (widths l)
unfolding widths
widths-drop [] zero = refl
widths-drop [] (suc j) = refl
widths-drop (g ∷ l) zero = refl
widths-drop (g ∷ l) (suc j) = widths-drop l j
