-- Laws of rows of fields.
-- Assumes nothing.
use mathlib.Core.Path.{◌≡◌, refl, sym, ap, ap₂, ◌∙◌, subst}
use mathlib.Core.Bool.{Bool, true, false, ◌&&◌, false≢true, and-eq-true_iff, and-false}
use mathlib.Core.List.{List, [], ◌∷◌, ◌++◌, append_assoc, append-nil}
use Prim.Native.Nat.{ℕ, zero, suc, ◌+◌, ◌*◌, ◌^◌, ◌≤◌, ◌<◌}
use native.Mathlib.Nat.{lt_of_lt_of_le, suc_inj}
use native.Mathlib.Numerals.{add-one}
use native.Mathlib.Omega.{arith}
use lib.Dec.{leb, ltb}
use borrow.Author.Tests.{leb-true, ltb-true, lt-ltb}
use lib.ListN.{length, get_or, set, take, drop, length-append, length-take, length-drop, take-append-drop, drop_of_length-le}
use lib.Seq.{paste, take-suc, take_at, drop_at, length-take-le, set_at, drop-cons, drop-drop, take_all, drop-append-add, append_snoc}
use lib.Pow.{pow_mono}
use Rattle.std.specs.List.{zip, list_all}
use Rattle.bits.specs.Bits.{value, bits_of, bits, bytes, Bytes}
use Rattle.bits.specs.Layout.{pack, unpack, sum, Fit, fitb, Narrow, narrowb, Layout, layoutb}
use Rattle.bits.proofs.Bits.{length-bits_of, value-lt, value-take-lt, bits_of-value, value-bits_of-fit, length-bits, bytes-bits, bits-bytes}

-- ---- both round trips

pub length-pack : (ws vs : List ℕ) → length (pack ws vs) ≡ sum ws
unfolding pack sum
length-pack [] vs = refl
length-pack (w ∷ ws) [] = rw (length-append, length-bits_of, length-pack ws [])
length-pack (w ∷ ws) (v ∷ vs) = rw (length-append, length-bits_of, length-pack ws vs)

pub unpack-pack : (ws vs : List ℕ) → Fit ws vs → unpack ws (pack ws vs) ≡ vs
unfolding pack unpack
unpack-pack [] [] f = refl
unpack-pack [] (v ∷ vs) f = absurd f
unpack-pack (w ∷ ws) [] f = absurd f
unpack-pack (w ∷ ws) (v ∷ vs) f =
    rw (take_at (bits_of w v) (pack ws vs) w (length-bits_of w v), drop_at (bits_of w v) (pack ws vs) w (length-bits_of w v), value-bits_of-fit w v f.0, unpack-pack ws vs f.1)

pub pack-unpack : (ws : List ℕ) (bs : List Bool) → length bs ≡ sum ws → pack ws (unpack ws bs) ≡ bs
unfolding pack unpack sum
pack-unpack [] [] e = refl
pack-unpack [] (b ∷ bs) e = absurd (omega arith)
pack-unpack (w ∷ ws) bs e =
    let l : length (take w bs) ≡ w = length-take-le w bs (omega arith) in
    let t : bits_of w (value (take w bs)) ≡ take w bs = subst (λ (k : ℕ). bits_of k (value (take w bs)) ≡ take w bs) l (bits_of-value (take w bs)) in
    rw (t, pack-unpack ws (drop w bs) (length-drop w bs ∙ omega arith)) (take-append-drop w bs)

pub length-fit : (ws vs : List ℕ) → Fit ws vs → length vs ≡ length ws
length-fit [] [] f = refl
length-fit [] (v ∷ vs) f = absurd f
length-fit (w ∷ ws) [] f = absurd f
length-fit (w ∷ ws) (v ∷ vs) f = ap suc (length-fit ws vs f.1)

pub fit-unpack : (ws : List ℕ) (bs : List Bool) → Fit ws (unpack ws bs)
unfolding unpack
fit-unpack [] bs = tt
fit-unpack (w ∷ ws) bs =
    (lt_of_lt_of_le (value-lt (take w bs)) (pow_mono (simp length-take (omega arith))), fit-unpack ws (drop w bs))

pub length-unpack : (ws : List ℕ) (bs : List Bool) → length (unpack ws bs) ≡ length ws
unfolding unpack
length-unpack [] bs = refl
length-unpack (w ∷ ws) bs = ap suc (length-unpack ws (drop w bs))

-- a value that was read fits its field
pub unpack-lt : (ws : List ℕ) (bs : List Bool) (i : ℕ) → get_or (unpack ws bs) i 0 < 2 ^ get_or ws i 0
unfolding unpack
unpack-lt [] bs i = omega arith
unpack-lt (w ∷ ws) bs zero = value-take-lt w bs
unpack-lt (w ∷ ws) bs (suc i) = unpack-lt ws (drop w bs) i

-- ---- rows of whole bytes

pub unpack-bytes-pack : (ws vs : List ℕ) (n : ℕ) → sum ws ≡ 8 * n → Fit ws vs → unpack ws (bits (bytes n (pack ws vs))) ≡ vs
unpack-bytes-pack ws vs n e f = rw (bits-bytes n (pack ws vs) (length-pack ws vs ∙ e)) (unpack-pack ws vs f)

pub bytes-pack-unpack : (ws s : List ℕ) → sum ws ≡ 8 * length s → Bytes s → bytes (length s) (pack ws (unpack ws (bits s))) ≡ s
bytes-pack-unpack ws s e h = ap (bytes (length s)) (pack-unpack ws (bits s) (length-bits s ∙ sym e)) ∙ bytes-bits s h

-- a row of bytes that the fields fill, after `write_all`
pub packed-bytes : (ws vs s t : List ℕ) (n : ℕ) → sum ws ≡ 8 * n → length s ≡ n → length t ≡ length s → Bytes t
    → bits t ≡ pack ws vs ++ drop (sum ws) (bits s) → t ≡ bytes n (pack ws vs)
packed-bytes ws vs s t n e l k h p =
    sym (bytes-bits t h) ∙ ap₂ (λ (m : ℕ) (b : List Bool). bytes m b) (k ∙ l)
    (p ∙ ap (λ (r : List Bool). pack ws vs ++ r) (drop_of_length-le (bits s) {i = sum ws} (omega (arith, length-bits s))) ∙ append-nil (pack ws vs))

-- ---- the tests
pub fitb-fit : (ws vs : List ℕ) → fitb ws vs ≡ true → Fit ws vs
fitb-fit [] [] e = tt
fitb-fit [] (v ∷ vs) e = absurd (false≢true e)
fitb-fit (w ∷ ws) [] e = absurd (false≢true e)
fitb-fit (w ∷ ws) (v ∷ vs) e =
    let h = (and-eq-true_iff (ltb v (2 ^ w)) (fitb ws vs)).0 e in
    (ltb-true v (2 ^ w) h.0, fitb-fit ws vs h.1)

pub fit-fitb : (ws vs : List ℕ) → Fit ws vs → fitb ws vs ≡ true
fit-fitb [] [] f = refl
fit-fitb [] (v ∷ vs) f = absurd f
fit-fitb (w ∷ ws) [] f = absurd f
fit-fitb (w ∷ ws) (v ∷ vs) f = rw (lt-ltb v (2 ^ w) f.0) (fit-fitb ws vs f.1)

pub narrowb-narrow : (ws : List ℕ) → narrowb ws ≡ true → Narrow ws
narrowb-narrow [] e i = omega arith
narrowb-narrow (w ∷ ws) e zero = ltb-true w 64 ((and-eq-true_iff (ltb w 64) (narrowb ws)).0 e).0
narrowb-narrow (w ∷ ws) e (suc i) = narrowb-narrow ws ((and-eq-true_iff (ltb w 64) (narrowb ws)).0 e).1 i

pub layoutb-layout : (ws : List ℕ) (n : ℕ) → layoutb ws n ≡ true → Layout ws n
layoutb-layout ws n e =
    let h = (and-eq-true_iff (narrowb ws) (leb (sum ws) (8 * n) && ltb (sum ws) 65536)).0 e in
    let k = (and-eq-true_iff (leb (sum ws) (8 * n)) (ltb (sum ws) 65536)).0 h.1 in
    record { narrow = narrowb-narrow ws h.0; room = leb-true (sum ws) (8 * n) k.0; short = ltb-true (sum ws) 65536 k.1 }

-- ---- a layout in two parts

pub sum-append : (ws xs : List ℕ) → sum (ws ++ xs) ≡ sum ws + sum xs
unfolding sum
sum-append [] xs = omega arith
sum-append (w ∷ ws) xs = omega (arith, sum-append ws xs)

pub unpack-append : (ws xs : List ℕ) (bs : List Bool) → unpack (ws ++ xs) bs ≡ unpack ws bs ++ unpack xs (drop (sum ws) bs)
unfolding unpack sum
unpack-append [] xs bs = refl
unpack-append (w ∷ ws) xs bs =
    ap (λ (l : List ℕ). value (take w bs) ∷ l) (unpack-append ws xs (drop w bs) ∙ rw drop-drop)

pub pack-append : (ws xs vs us : List ℕ) → length vs ≡ length ws → pack (ws ++ xs) (vs ++ us) ≡ pack ws vs ++ pack xs us
unfolding pack
pack-append [] xs [] us e = refl
pack-append [] xs (v ∷ vs) us e = absurd (omega arith)
pack-append (w ∷ ws) xs [] us e = absurd (omega arith)
pack-append (w ∷ ws) xs (v ∷ vs) us e =
    ap (λ (l : List Bool). bits_of w v ++ l) (pack-append ws xs vs us (suc_inj e)) ∙ sym (append_assoc (bits_of w v) (pack ws vs) (pack xs us))

pub fit_append : (ws xs vs us : List ℕ) → Fit ws vs → Fit xs us → Fit (ws ++ xs) (vs ++ us)
fit_append [] xs [] us f g = g
fit_append [] xs (v ∷ vs) us f g = absurd f
fit_append (w ∷ ws) xs [] us f g = absurd f
fit_append (w ∷ ws) xs (v ∷ vs) us f g = (f.0, fit_append ws xs vs us f.1 g)

-- ---- one field more

pub sum-snoc : (ws : List ℕ) (w : ℕ) → sum (ws ++ (w ∷ [])) ≡ sum ws + w
unfolding sum
sum-snoc ws w = omega (arith, sum-append ws (w ∷ []))

pub unpack-snoc : (ws : List ℕ) (w : ℕ) (bs : List Bool) → unpack (ws ++ (w ∷ [])) bs ≡ unpack ws bs ++ (value (take w (drop (sum ws) bs)) ∷ [])
unfolding unpack
unpack-snoc ws w bs = unpack-append ws (w ∷ []) bs

pub pack-snoc : (ws vs : List ℕ) (w v : ℕ) → length vs ≡ length ws → pack (ws ++ (w ∷ [])) (vs ++ (v ∷ [])) ≡ pack ws vs ++ bits_of w v
unfolding pack
pack-snoc ws vs w v e = pack-append ws (w ∷ []) vs (v ∷ []) e ∙ ap (λ (l : List Bool). pack ws vs ++ l) (append-nil (bits_of w v))

pub sum-take : (ws : List ℕ) (j : ℕ) → j < length ws → sum (take (j + 1) ws) ≡ sum (take j ws) + get_or ws j 0
sum-take ws j h = rw (add-one, take-suc ws j 0) (sum-snoc (take j ws) (get_or ws j 0))

pub sum-le : (ws : List ℕ) (j : ℕ) → sum (take j ws) ≤ sum ws
unfolding sum
sum-le [] zero = omega arith
sum-le [] (suc j) = omega arith
sum-le (w ∷ ws) zero = omega arith
sum-le (w ∷ ws) (suc j) = omega (arith, sum-le ws j)

pub sum-next : (ws : List ℕ) (j : ℕ) → j < length ws → sum (take j ws) + get_or ws j 0 ≤ sum ws
sum-next ws j h = omega (arith, sum-take ws j h, sum-le ws (j + 1))

-- a field right after the fields that are in place
pub paste-after : (p l : List Bool) (k w v : ℕ) → length p ≡ k → k + w ≤ length l
    → paste (p ++ drop k l) k (bits_of w v) w ≡ (p ++ bits_of w v) ++ drop (k + w) l
paste-after p l k w v e h =
    let t : take w (bits_of w v) ≡ bits_of w v = take_all w (bits_of w v) (rw length-bits_of (omega arith)) in
    let d : drop (k + w) (p ++ drop k l) ≡ drop (k + w) l =
    ap (λ (n : ℕ). drop (n + w) (p ++ drop k l)) (sym e) ∙ drop-append-add p (drop k l) w ∙ drop-drop w k l in
    rw (take_at p (drop k l) k e, t, d)

pub unpack-next : (ws out : List ℕ) (bs : List Bool) (j : ℕ) → j < length ws → length out ≡ length ws
    → set (unpack (take j ws) bs ++ drop j out) j (value (take (get_or ws j 0) (drop (sum (take j ws)) bs))) ≡ unpack (take (j + 1) ws) bs ++ drop (j + 1) out
unpack-next ws out bs j h e =
    let v : ℕ = value (take (get_or ws j 0) (drop (sum (take j ws)) bs)) in
    let l : length (unpack (take j ws) bs) ≡ j = length-unpack (take j ws) bs ∙ length-take-le j ws (omega arith) in
    let ho : j < length out = omega arith in
    rw (add-one, drop-cons out j 0 ho, take-suc ws j 0 h, unpack-snoc (take j ws) (get_or ws j 0) bs)
    (set_at (unpack (take j ws) bs) (get_or out j 0) (drop (suc j) out) v j l ∙ sym (append_snoc (unpack (take j ws) bs) v (drop (suc j) out)))

pub pack-next : (ws vs : List ℕ) (l : List Bool) (j : ℕ) → j < length ws → length vs ≡ length ws → sum ws ≤ length l
    → paste (pack (take j ws) (take j vs) ++ drop (sum (take j ws)) l) (sum (take j ws)) (bits_of (get_or ws j 0) (get_or vs j 0)) (get_or ws j 0)
    ≡ pack (take (j + 1) ws) (take (j + 1) vs) ++ drop (sum (take (j + 1) ws)) l
pack-next ws vs l j h e r =
    let hv : j < length vs = omega arith in
    let le : length (take j vs) ≡ length (take j ws) = length-take-le j vs (omega arith) ∙ sym (length-take-le j ws (omega arith)) in
    rw (sum-take ws j h, add-one, take-suc ws j 0 h, take-suc vs j 0 hv, pack-snoc (take j ws) (take j vs) (get_or ws j 0) (get_or vs j 0) le)
    (paste-after (pack (take j ws) (take j vs)) l (sum (take j ws)) (get_or ws j 0) (get_or vs j 0) (length-pack (take j ws) (take j vs))
    (omega (arith, sum-take ws j h, sum-le ws (j + 1))))

-- the wrong number of values
pub fitb-length : (ws vs : List ℕ) → (length vs ≡ length ws → ⊥) → fitb ws vs ≡ false
fitb-length [] [] h = absurd (h refl)
fitb-length [] (v ∷ vs) h = refl
fitb-length (w ∷ ws) [] h = refl
fitb-length (w ∷ ws) (v ∷ vs) h =
    ap (λ (t : Bool). ltb v (2 ^ w) && t) (fitb-length ws vs (λ e. h (ap suc e))) ∙ and-false (ltb v (2 ^ w))

-- as many values as fields: each value is tested with the width of its own field
pub fitb-all : (ws vs : List ℕ) → length vs ≡ length ws → fitb ws vs ≡ list_all (λ p. ltb p.1 (2 ^ p.0)) (zip ws vs)
fitb-all [] [] e = refl
fitb-all [] (v ∷ vs) e = absurd (omega arith)
fitb-all (w ∷ ws) [] e = absurd (omega arith)
fitb-all (w ∷ ws) (v ∷ vs) e = ap (ltb v (2 ^ w) &&◌) (fitb-all ws vs (suc_inj e))
