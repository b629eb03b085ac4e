-- The answer to a frame with marks, by cases; and what it shares with demand 3's answer to a frame without. Assumes nothing.
use mathlib.Core.Path.{◌≡◌, refl, sym, ap, ap₂, ◌∙◌, subst}
use mathlib.Core.Bool.{Bool, true, false, true≢false, cond, ◌&&◌}
use mathlib.Core.Logic.{◌≢◌}
use mathlib.Core.List.{List, [], ◌∷◌}
use Prim.Native.Nat.{ℕ}
use native.Mathlib.Omega.{arith}
use lib.Dec.{eqb}
use lib.ListN.{length}
use borrow.Author.Tests.{eq-eqb, ne_eqb, eqb-true, eqb-false}
use Rattle.gf2.specs.Polynomial.{◌⊕◌, add, zeros}
use Rattle.gf2.proofs.Sum.{add_assoc, add_same, add-to-zeros}
use Rattle.dsc.specs.Code.{CodeWord, weight, dist}
use Rattle.dsc.specs.Repair.{protected, Decoded, corrected, beyond, repaired_to, refused_with}
use Rattle.dsc.specs.Marks.{MarksSized, filled, unmarked_in, unmarked_dist, Few, decode_marked, marked_answer, marked_repair_of, Marking, unmarked, marked, repair_by, whole, hits_by, FewBy}
use Rattle.dsc.specs.declared.Answer.{Answer}
use Rattle.dsc.proofs.Word.{length-word}
use Rattle.dsc.proofs.Decoding.{Nearest, nearest}
use Rattle.dsc.proofs.Decoding as plain
use Rattle.dsc.proofs.Answers.{length-protected, repair-found, repair-none, repair-short}
use Rattle.dsc.proofs.MarkedDecoding.{marked-found, marked-none, MarkedNearest, one, none, marked-nearest, filled_none}

-- ---- what stands under the marks

filled-add : (ms r c : List Bool) → filled false ms (add r c) ≡ add (filled false ms r) (filled false ms c)
unfolding filled add
filled-add [] r c = refl
filled-add (m ∷ ms) [] c = refl
filled-add (m ∷ ms) (a ∷ r) [] = refl
filled-add (m ∷ ms) (a ∷ r) (b ∷ c) = ap₂ ◌∷◌ (first m a b) (filled-add ms r c)
  where
    first : (m a b : Bool) → cond m false (a ⊕ b) ≡ cond m false a ⊕ cond m false b
    first true a b = refl
    first false a b = refl

-- words that agree in the unmarked places are as far from any word
pub unmarked-alike : (ms r s c : List Bool) → unmarked_in ms r ≡ unmarked_in ms s → unmarked_dist ms r c ≡ unmarked_dist ms s c
unmarked-alike ms r s c e =
    ap weight (filled-add ms r c ∙ ap (λ (u : List Bool). add u (filled false ms c)) e ∙ sym (filled-add ms s c))

-- with no marks every place counts
pub unmarked-dist : (ms r c : List Bool) → ms ≡ zeros 187 → length (add r c) ≡ 187 → unmarked_dist ms r c ≡ dist r c
unmarked-dist ms r c e h = ap (λ (x : List Bool). weight (filled false x (add r c))) e ∙ ap weight (filled_none false 187 (add r c) h)

-- ---- sizes

both : (a b : Bool) → a && b ≡ true → (a ≡ true) × (b ≡ true)
both true true e = (refl, refl)
both true false e = absurd (true≢false (sym e))
both false b e = absurd (true≢false (sym e))

pub whole-marks : (m f : List ℕ) → whole (marked m) f ≡ true → length m ≡ 26
whole-marks m f e = eqb-true (length m) 26 (both (eqb (length f) 26) (eqb (length m) 26) e).1

pub whole-frame : (q : Marking) (f : List ℕ) → whole q f ≡ true → length f ≡ 26
whole-frame unmarked f e = eqb-true (length f) 26 e
whole-frame (marked m) f e = eqb-true (length f) 26 (both (eqb (length f) 26) (eqb (length m) 26) e).0

pub marked-whole : (m f : List ℕ) → length m ≡ 26 → whole (marked m) f ≡ whole unmarked f
marked-whole m f h = ap (eqb (length f) 26 &&◌) (eq-eqb (length m) 26 h) ∙ and-true (eqb (length f) 26)
  where
    and-true : (b : Bool) → b && true ≡ b
    and-true true = refl
    and-true false = refl

-- marks of another size: never whole
pub marks-short : (m f : List ℕ) → length m ≢ 26 → whole (marked m) f ≡ false
marks-short m f n = ap (eqb (length f) 26 &&◌) (ne_eqb (length m) 26 n) ∙ and-false (eqb (length f) 26)
  where
    and-false : (b : Bool) → b && false ≡ false
    and-false true = refl
    and-false false = refl

pub sized-whole : (q : Marking) (f : List ℕ) → length f ≡ 26 → MarksSized q → whole q f ≡ true
sized-whole unmarked f h m = eq-eqb (length f) 26 h
sized-whole (marked n) f h m = ap₂ ◌&&◌ (eq-eqb (length f) 26 h) (eq-eqb (length n) 26 m)

-- ---- the answer by cases

module _ (f m : List ℕ) where
  pub marked-short : whole (marked m) f ≡ false → marked_repair_of f m ≡ refused_with 1
  unfolding marked_repair_of
  marked-short e = rw e

  module _ (w : whole (marked m) f ≡ true) where
    lf : length (protected f) ≡ 187
    lf = length-protected f (whole-frame (marked m) f w)

    lm : length (protected m) ≡ 187
    lm = length-protected m (whole-marks m f w)

    pub marked-decoded : (d : Decoded) → decode_marked (protected m) (protected f) ≡ d → marked_repair_of f m ≡ marked_answer (protected m) (protected f) d
    unfolding marked_repair_of
    marked-decoded d e =
        ap (λ (t : Bool). cond t (marked_answer (protected m) (protected f) (decode_marked (protected m) (protected f))) (refused_with 1)) w
        ∙ ap (marked_answer (protected m) (protected f)) e

    pub marked-repair-found : (c : List Bool) → CodeWord c → Few (protected m) (unmarked_dist (protected m) (protected f) c)
        → marked_repair_of f m ≡ repaired_to c (unmarked_dist (protected m) (protected f) c)
    unfolding marked_answer
    marked-repair-found c k d = marked-decoded (corrected c) (marked-found (protected m) (protected f) lm lf c k d)

    pub marked-repair-none : ((c : List Bool) → CodeWord c → Few (protected m) (unmarked_dist (protected m) (protected f) c) → ⊥)
        → marked_repair_of f m ≡ refused_with 4
    unfolding marked_answer
    marked-repair-none n = marked-decoded beyond (marked-none (protected m) (protected f) lm lf n)

    pub marked-repair-nearest : MarkedNearest (protected m) (protected f)
    marked-repair-nearest = marked-nearest (protected m) (protected f) lm lf

-- ---- over both repairs

-- the answer to the frame f: the code word c, n places that count from what was received, which are not too many; or refusal 4
pub data AnsweredBy (q : Marking) (f : List ℕ) : Type 0 where
  found : (c : List Bool) → CodeWord c → FewBy q (hits_by q (add (protected f) c)) → repair_by q f ≡ repaired_to c (hits_by q (add (protected f) c)) → AnsweredBy q f
  far : ((c : List Bool) → CodeWord c → FewBy q (hits_by q (add (protected f) c)) → ⊥) → repair_by q f ≡ refused_with 4 → AnsweredBy q f

pub found-by : (q : Marking) (f : List ℕ) → whole q f ≡ true → (c : List Bool) → CodeWord c → FewBy q (hits_by q (add (protected f) c))
    → repair_by q f ≡ repaired_to c (hits_by q (add (protected f) c))
found-by unmarked f w c k d = repair-found f (whole-frame unmarked f w) c k d
found-by (marked m) f w c k d = marked-repair-found f m w c k d

pub answered-by : (q : Marking) (f : List ℕ) → whole q f ≡ true → AnsweredBy q f
answered-by unmarked f w = go (nearest (protected f) (length-protected f h))
  where
    h : length f ≡ 26
    h = whole-frame unmarked f w

    go : Nearest (protected f) → AnsweredBy unmarked f
    go (plain.one c k d) = found c k d (repair-found f h c k d)
    go (plain.none n) = far n (repair-none f h n)
answered-by (marked m) f w = go (marked-repair-nearest f m w)
  where
    go : MarkedNearest (protected m) (protected f) → AnsweredBy (marked m) f
    go (one c k d) = found c k d (marked-repair-found f m w c k d)
    go (none n) = far n (marked-repair-none f m w n)

pub short-by : (q : Marking) (f : List ℕ) → whole q f ≡ false → repair_by q f ≡ refused_with 1
short-by unmarked f e = repair-short f (eqb-false (length f) 26 e)
short-by (marked m) f e = marked-short f m e

-- what holds of each of a repair's three answers holds of its answer to f
pub each-answer : (q : Marking) (f : List ℕ) (P : Answer → Type 0) → ((c : List Bool) (n : ℕ) → P (repaired_to c n)) → P (refused_with 4) → P (refused_with 1)
    → P (repair_by q f)
each-answer q f P fixed refused short = go (whole q f) refl
  where
    by : AnsweredBy q f → P (repair_by q f)
    by (found c k d a) = subst P (sym a) (fixed c (hits_by q (add (protected f) c)))
    by (far n a) = subst P (sym a) refused

    go : (t : Bool) → whole q f ≡ t → P (repair_by q f)
    go false e = subst P (sym (short-by q f e)) short
    go true e = by (answered-by q f e)

-- a word hit in the places of e is as far from itself as e has places that count
pub hits-sent : (q : Marking) (f : List ℕ) (c e : List Bool) → CodeWord c → length e ≡ 187 → protected f ≡ add e c
    → hits_by q (add (protected f) c) ≡ hits_by q e
hits-sent q f c e k l p =
    ap (hits_by q)
    (ap (λ (r : List Bool). add r c) p ∙ add_assoc e c c (omega (arith, length-word c k))
    ∙ ap (add e) (add_same c ∙ ap zeros (length-word c k ∙ sym l)) ∙ add-to-zeros e)
