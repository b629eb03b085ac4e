-- Laws of tables of refusals.
-- Assumes nothing.
use mathlib.Core.Path.{◌≡◌, refl, sym, ap, ◌∙◌}
use mathlib.Core.Bool.{Bool, true, false, cond, and-eq-true_iff, not, ◌||◌, ◌&&◌, true≢false}
use mathlib.Core.Logic.{◌≢◌}
use mathlib.Core.List.{List, [], ◌∷◌, ◌++◌}
use Prim.Native.Nat.{ℕ, ◌≤◌, ◌<◌}
use native.Mathlib.Omega.{arith}
use lib.Dec.{eqb, ltb, leb}
use borrow.Author.Tests.{ltb-true, leb-true, ne_eqb, eqb-false, not-true}
use Rattle.bits.specs.Refusal.{first_refusal, or_else, NoneGiven, GivenFirst, numbered}

-- two refusals are given: the answer is the first one's
twelve : first_refusal ((1, false) ∷ (12, true) ∷ (14, true) ∷ []) ≡ 12
unfolding first_refusal
twelve = refl

-- a refusal of two tests is not given: neither test is met
pub neither : (s t : Bool) → (s || t) ≡ false → (s ≡ false) × (t ≡ false)
neither true t e = absurd (true≢false e)
neither false t e = (refl, e)

-- ---- one line of the table

-- given: its number
pub refusal-here : (n : ℕ) {given : Bool} (ts : List (ℕ × Bool)) → given ≡ true → first_refusal ((n, given) ∷ ts) ≡ n
unfolding first_refusal
refusal-here n ts e = ap (λ (t : Bool). cond t n (first_refusal ts)) e

-- not given: the rest of the table
pub refusal-later : (n : ℕ) {given : Bool} (ts : List (ℕ × Bool)) → given ≡ false → first_refusal ((n, given) ∷ ts) ≡ first_refusal ts
unfolding first_refusal
refusal-later n ts e = ap (λ (t : Bool). cond t n (first_refusal ts)) e

-- ---- the table tested in order, as code does that returns at the first test that is met

pub data Tested : List (ℕ × Bool) → ℕ → Type 0 where
  end : Tested [] 0
  met : {n : ℕ} {given : Bool} {ts : List (ℕ × Bool)} → given ≡ true → Tested ((n, given) ∷ ts) n
  unmet : {m n : ℕ} {given : Bool} {ts : List (ℕ × Bool)} → given ≡ false → Tested ts m → Tested ((n, given) ∷ ts) m

pub tested : {ts : List (ℕ × Bool)} {n : ℕ} → Tested ts n → n ≡ first_refusal ts
unfolding first_refusal
tested end = refl
tested (met {n} {given} {ts} e) = sym (refusal-here n ts e)
tested (unmet {m} {n} {given} {ts} e a) = tested a ∙ sym (refusal-later n ts e)

-- so, where `if short { return 1; } if wrong { return 12; } 0` returns 12
example : (short wrong : Bool) → short ≡ false → wrong ≡ true → 12 ≡ first_refusal ((1, short) ∷ (12, wrong) ∷ [])
example short wrong e₁ e₂ = tested (unmet e₁ (met e₂))

-- ---- 0 exactly when no refusal is given

pub none-refusal : (ts : List (ℕ × Bool)) → NoneGiven ts → first_refusal ts ≡ 0
unfolding first_refusal
none-refusal [] h = refl
none-refusal ((n, given) ∷ ts) h = refusal-later n ts h.0 ∙ none-refusal ts h.1

pub refusal-none : (ts : List (ℕ × Bool)) → numbered ts ≡ true → first_refusal ts ≡ 0 → NoneGiven ts
unfolding first_refusal
refusal-none [] c e = tt
refusal-none ((n, true) ∷ ts) c e = absurd (omega (arith, ltb-true 0 n ((and-eq-true_iff (ltb 0 n) (numbered ts)).0 c).0))
refusal-none ((n, false) ∷ ts) c e = (refl, refusal-none ts ((and-eq-true_iff (ltb 0 n) (numbered ts)).0 c).1 e)

-- ---- n exactly when refusal n is the first that is given

pub first-refusal : (ts : List (ℕ × Bool)) (n : ℕ) → GivenFirst ts n → first_refusal ts ≡ n
first-refusal ts n h = ap first_refusal h.is ∙ go h.before h.none
  where
    go : (before : List (ℕ × Bool)) → NoneGiven before → first_refusal (before ++ (n, true) ∷ h.after) ≡ n
    go [] k = refusal-here n h.after refl
    go ((m, given) ∷ before) k = refusal-later m (before ++ (n, true) ∷ h.after) k.0 ∙ go before k.1

pub refusal-first : (ts : List (ℕ × Bool)) (n : ℕ) → 0 < n → first_refusal ts ≡ n → GivenFirst ts n
unfolding first_refusal
refusal-first [] n h e = absurd (omega arith)
refusal-first ((m, true) ∷ ts) n h e =
    record { before = []; after = ts; is = ap (λ (k : ℕ). (k, true) ∷ ts) e; none = tt }
refusal-first ((m, false) ∷ ts) n h e =
    let r = refusal-first ts n h e in
    record { before = (m, false) ∷ r.before; after = r.after; is = ap (λ (l : List (ℕ × Bool)). (m, false) ∷ l) r.is; none = (refl, r.none) }

-- ---- a number that only one line has

-- no line has the number n
abbrev pub lacks : ℕ → List (ℕ × Bool) → Bool
lacks n [] = true
lacks n ((m, given) ∷ ts) = not (eqb m n) && lacks n ts

lacks-refusal : (ts : List (ℕ × Bool)) (n : ℕ) → 0 < n → lacks n ts ≡ true → first_refusal ts ≢ n
unfolding first_refusal
lacks-refusal [] n h l e = omega arith
lacks-refusal ((m, true) ∷ ts) n h l e = eqb-false m n (not-true (eqb m n) ((and-eq-true_iff (not (eqb m n)) (lacks n ts)).0 l).0) e
lacks-refusal ((m, false) ∷ ts) n h l e = lacks-refusal ts n h ((and-eq-true_iff (not (eqb m n)) (lacks n ts)).0 l).1 e

-- where it is the answer, that line's test is met
pub refusal-met : (ts us : List (ℕ × Bool)) (n : ℕ) (given : Bool) → 0 < n → lacks n ts ≡ true → lacks n us ≡ true → first_refusal (ts ++ (n, given) ∷ us) ≡ n → given ≡ true
unfolding first_refusal
refusal-met [] us n true h l k e = refl
refusal-met [] us n false h l k e = absurd (lacks-refusal us n h k e)
refusal-met ((m, true) ∷ ts) us n given h l k e = absurd (eqb-false m n (not-true (eqb m n) ((and-eq-true_iff (not (eqb m n)) (lacks n ts)).0 l).0) e)
refusal-met ((m, false) ∷ ts) us n given h l k e = refusal-met ts us n given h ((and-eq-true_iff (not (eqb m n)) (lacks n ts)).0 l).1 k e

-- ---- a table in two parts

pub refusal-append : (ts us : List (ℕ × Bool)) → numbered ts ≡ true → first_refusal (ts ++ us) ≡ or_else (first_refusal ts) (first_refusal us)
unfolding first_refusal
refusal-append [] us c = refl
refusal-append ((n, true) ∷ ts) us c =
    let h : 0 < n = ltb-true 0 n ((and-eq-true_iff (ltb 0 n) (numbered ts)).0 c).0 in
    sym (ap (λ (t : Bool). cond t (first_refusal us) n) (ne_eqb n 0 (λ e. omega arith)))
refusal-append ((n, false) ∷ ts) us c = refusal-append ts us ((and-eq-true_iff (ltb 0 n) (numbered ts)).0 c).1

-- where the first part refuses
pub refusal-append-given : (ts us : List (ℕ × Bool)) (n : ℕ) → 0 < n → first_refusal ts ≡ n → first_refusal (ts ++ us) ≡ n
unfolding first_refusal
refusal-append-given [] us n h e = absurd (omega arith)
refusal-append-given ((m, true) ∷ ts) us n h e = e
refusal-append-given ((m, false) ∷ ts) us n h e = refusal-append-given ts us n h e

-- and where it does not
pub refusal-append-none : (ts us : List (ℕ × Bool)) → NoneGiven ts → first_refusal (ts ++ us) ≡ first_refusal us
refusal-append-none [] us h = refl
refusal-append-none ((n, given) ∷ ts) us h = refusal-later n (ts ++ us) h.0 ∙ refusal-append-none ts us h.1

pub none-append : (ts us : List (ℕ × Bool)) → NoneGiven ts → NoneGiven us → NoneGiven (ts ++ us)
none-append [] us h k = k
none-append ((n, given) ∷ ts) us h k = (h.0, none-append ts us h.1 k)

pub none-split : (ts us : List (ℕ × Bool)) → NoneGiven (ts ++ us) → NoneGiven ts × NoneGiven us
none-split [] us h = (tt, h)
none-split ((n, given) ∷ ts) us h = let r = none-split ts us h.1 in ((h.0, r.0), r.1)

-- every number of a table is at most m
abbrev pub at_most : ℕ → List (ℕ × Bool) → Bool
at_most m [] = true
at_most m ((n, given) ∷ ts) = leb n m && at_most m ts

pub refusal-most : (m : ℕ) (ts : List (ℕ × Bool)) → at_most m ts ≡ true → first_refusal ts ≤ m
unfolding first_refusal
refusal-most m [] h = omega arith
refusal-most m ((n, true) ∷ ts) h = leb-true n m ((and-eq-true_iff (leb n m) (at_most m ts)).0 h).0
refusal-most m ((n, false) ∷ ts) h = refusal-most m ts ((and-eq-true_iff (leb n m) (at_most m ts)).0 h).1
