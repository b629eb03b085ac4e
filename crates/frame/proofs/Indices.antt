-- Values put at indices of a list, and taken from them. Assumes nothing.
use mathlib.Core.Path.{◌≡◌, refl, sym, ap, ap₂, ◌∙◌}
use mathlib.Core.Bool.{Bool, true, not, ◌&&◌, and-eq-true_iff}
use mathlib.Core.List.{List, [], ◌∷◌}
use Prim.Native.Nat.{ℕ, zero, suc, ◌^◌, ◌<◌}
use native.Mathlib.Nat.{suc_inj}
use native.Mathlib.Omega.{arith}
use lib.Dec.{eqb, ltb}
use lib.ListN.{length, get_or, set, replicate, length-set}
use lib.Seq.{get_or-set_same, get_or-set_other}
use borrow.Author.Tests.{ltb-true, eqb-false, not-true}
use Rattle.bits.specs.Layout.{Fit}
use Rattle.frame.specs.Fields.{gather, scatter}

pub length-scatter : (ks vs f : List ℕ) → length (scatter ks vs f) ≡ length f
unfolding scatter
length-scatter [] vs f = refl
length-scatter (k ∷ ks) [] f = refl
length-scatter (k ∷ ks) (v ∷ vs) f = length-scatter ks vs (set f k v) ∙ length-set f k v

-- ---- what is put is found

-- the number k is not among the indices
abbrev pub absent : ℕ → List ℕ → Bool
absent k [] = true
absent k (j ∷ ks) = not (eqb k j) && absent k ks

-- the indices are below n, and no two are one
abbrev pub apart : ℕ → List ℕ → Bool
apart n [] = true
apart n (k ∷ ks) = ltb k n && (absent k ks && apart n ks)

pub scatter-other : (ks vs f : List ℕ) (k : ℕ) → absent k ks ≡ true → get_or (scatter ks vs f) k 0 ≡ get_or f k 0
unfolding scatter
scatter-other [] vs f k e = refl
scatter-other (j ∷ ks) [] f k e = refl
scatter-other (j ∷ ks) (v ∷ vs) f k e =
    let h = (and-eq-true_iff (not (eqb k j)) (absent k ks)).0 e in
    scatter-other ks vs (set f j v) k h.1 ∙ get_or-set_other f j k v 0 (eqb-false k j (not-true (eqb k j) h.0))

pub gather-scatter : (ks vs f : List ℕ) → apart (length f) ks ≡ true → length vs ≡ length ks → gather ks (scatter ks vs f) ≡ vs
unfolding gather scatter
gather-scatter [] [] f a e = refl
gather-scatter [] (v ∷ vs) f a e = absurd (omega arith)
gather-scatter (k ∷ ks) [] f a e = absurd (omega arith)
gather-scatter (k ∷ ks) (v ∷ vs) f a e =
    let h = (and-eq-true_iff (ltb k (length f)) (absent k ks && apart (length f) ks)).0 a in
    let t = (and-eq-true_iff (absent k ks) (apart (length f) ks)).0 h.1 in
    ap₂ (λ (x : ℕ) (l : List ℕ). x ∷ l)
    (scatter-other ks vs (set f k v) k t.0 ∙ get_or-set_same f k v 0 (ltb-true k (length f) h.0))
    (gather-scatter ks vs (set f k v) (ap (λ (n : ℕ). apart n ks) (length-set f k v) ∙ t.1) (suc_inj e))

-- an element that two lists share stays shared
set-shared : (f g : List ℕ) (j v k : ℕ) → length f ≡ length g → get_or f k 0 ≡ get_or g k 0 → get_or (set f j v) k 0 ≡ get_or (set g j v) k 0
set-shared [] [] j v k n e = e
set-shared [] (y ∷ g) j v k n e = absurd (omega arith)
set-shared (x ∷ f) [] j v k n e = absurd (omega arith)
set-shared (x ∷ f) (y ∷ g) zero v zero n e = refl
set-shared (x ∷ f) (y ∷ g) zero v (suc k) n e = e
set-shared (x ∷ f) (y ∷ g) (suc j) v zero n e = e
set-shared (x ∷ f) (y ∷ g) (suc j) v (suc k) n e = set-shared f g j v k (suc_inj n) e

pub scatter-shared : (ks vs f g : List ℕ) (k : ℕ) → length f ≡ length g → get_or f k 0 ≡ get_or g k 0 → get_or (scatter ks vs f) k 0 ≡ get_or (scatter ks vs g) k 0
unfolding scatter
scatter-shared [] vs f g k n e = e
scatter-shared (j ∷ ks) [] f g k n e = e
scatter-shared (j ∷ ks) (v ∷ vs) f g k n e =
    scatter-shared ks vs (set f j v) (set g j v) k (length-set f j v ∙ n ∙ sym (length-set g j v)) (set-shared f g j v k n e)

-- ---- values that fit widths

-- one value of those that fit
pub fit_at : (ws vs : List ℕ) → Fit ws vs → (j : ℕ) → get_or vs j 0 < 2 ^ get_or ws j 0
fit_at [] [] f j = omega arith
fit_at [] (v ∷ vs) f j = absurd f
fit_at (w ∷ ws) [] f j = absurd f
fit_at (w ∷ ws) (v ∷ vs) f zero = f.0
fit_at (w ∷ ws) (v ∷ vs) f (suc j) = fit_at ws vs f.1 j

pub fit-gather : (ks ws vs : List ℕ) → Fit ws vs → Fit (gather ks ws) (gather ks vs)
unfolding gather
fit-gather [] ws vs f = tt
fit-gather (k ∷ ks) ws vs f = (fit_at ws vs f k, fit-gather ks ws vs f)

fit-set : (ws vs : List ℕ) (k w v : ℕ) → Fit ws vs → v < 2 ^ w → Fit (set ws k w) (set vs k v)
fit-set [] [] k w v f h = tt
fit-set [] (y ∷ vs) k w v f h = absurd f
fit-set (x ∷ ws) [] k w v f h = absurd f
fit-set (x ∷ ws) (y ∷ vs) zero w v f h = (h, f.1)
fit-set (x ∷ ws) (y ∷ vs) (suc k) w v f h = (f.0, fit-set ws vs k w v f.1 h)

pub fit-scatter : (ks us vs ws f : List ℕ) → Fit us vs → Fit ws f → Fit (scatter ks us ws) (scatter ks vs f)
unfolding scatter
fit-scatter [] us vs ws f p q = q
fit-scatter (k ∷ ks) [] [] ws f p q = q
fit-scatter (k ∷ ks) [] (v ∷ vs) ws f p q = absurd p
fit-scatter (k ∷ ks) (u ∷ us) [] ws f p q = absurd p
fit-scatter (k ∷ ks) (u ∷ us) (v ∷ vs) ws f p q = fit-scatter ks us vs (set ws k u) (set f k v) p.1 (fit-set ws f k u v q p.0)

-- ---- what is found is put

-- the values xs are those of f wherever f fits the widths ws
pub data Agree : List ℕ → List ℕ → List ℕ → Type 0 where
  end : Agree [] [] []
  next : {w x y : ℕ} {ws xs f : List ℕ} → (y < 2 ^ w → x ≡ y) → Agree ws xs f → Agree (w ∷ ws) (x ∷ xs) (y ∷ f)

agree-set : {ws xs f : List ℕ} → Agree ws xs f → (k w : ℕ) → Agree (set ws k w) (set xs k (get_or f k 0)) f
agree-set end k w = end
agree-set (next h a) zero w = next (λ l. refl) a
agree-set (next h a) (suc k) w = next h (agree-set a k w)

pub agree-scatter : (ks us : List ℕ) {ws xs f : List ℕ} → length us ≡ length ks → Agree ws xs f → Agree (scatter ks us ws) (scatter ks (gather ks f) xs) f
unfolding gather scatter
agree-scatter [] us e a = a
agree-scatter (k ∷ ks) [] e a = absurd (omega arith)
agree-scatter (k ∷ ks) (u ∷ us) e a = agree-scatter ks us (suc_inj e) (agree-set a k u)

pub agree-fit : {ws xs f : List ℕ} → Agree ws xs f → Fit ws f → xs ≡ f
agree-fit end p = refl
agree-fit (next h a) p = ap₂ (λ (x : ℕ) (l : List ℕ). x ∷ l) (h p.0) (agree-fit a p.1)

-- of no width
zero-only : (y : ℕ) → y < 2 ^ 0 → 0 ≡ y
zero-only y h = omega arith

pub agree-none : (n : ℕ) (f : List ℕ) → length f ≡ n → Agree (replicate n 0) (replicate n 0) f
agree-none zero [] e = end
agree-none zero (y ∷ f) e = absurd (omega arith)
agree-none (suc n) [] e = absurd (omega arith)
agree-none (suc n) (y ∷ f) e = next (zero-only y) (agree-none n f (suc_inj e))
