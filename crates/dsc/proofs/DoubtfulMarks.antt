-- The promises of the repair with marks hold, and its worked examples. Assumes nothing.
use mathlib.Core.Path.{◌≡◌, refl, sym, ap, ap₂, ◌∙◌, subst}
use mathlib.Core.Bool.{Bool, true, false, true≢false, ◌&&◌}
use mathlib.Core.Logic.{◌≢◌, ◌⊎◌, inl, inr}
use mathlib.Core.List.{List, [], ◌∷◌}
use Prim.Native.Nat.{ℕ, ◌+◌, ◌*◌, ◌≤◌}
use native.Mathlib.Omega.{arith}
use lib.Dec.{eqb}
use lib.ListN.{length}
use borrow.Author.Tests.{eqb-true, eqb-false, ne_eqb}
use Rattle.bits.specs.Bits.{digit}
use Rattle.gf2.specs.Polynomial.{zeros, poly, member, add}
use Rattle.gf2.proofs.Sum.{length-add, add-to-zeros}
use Rattle.dsc.specs.Code.{powers, CodeWord, weight, dist}
use Rattle.dsc.specs.Repair.{protected, word_bytes, repaired_to, refused_with, number_of, repair_of}
use Rattle.dsc.specs.Marks.{filled, unmarked_in, unmarked_dist, Few, marked_repair_of, marked, whole}
use Rattle.dsc.specs.Worked.{generator_word, first_places, next_place, MarkedWorked}
use Rattle.dsc.specs.Promises.{RefusedOrWrong, refused, wrong, HitMarked, NoneFew, FoundOrNone, DoubtfulMarks}
use Rattle.dsc.specs.Promises as promises
use Rattle.dsc.specs.declared.Answer.{Answer}
use Rattle.dsc.proofs.Word.{length-word}
use Rattle.dsc.proofs.Weight.{weight-zeros}
use Rattle.dsc.proofs.Distance.{distance18}
use Rattle.dsc.proofs.Answers.{length-protected, length-word_bytes, protected-word_bytes, repair-found, repair-none, repair-short}
use Rattle.dsc.proofs.MarkedDecoding.{MarkedNearest, one, none, marked-apart, marked-only-one, ball-unmarked}
use Rattle.dsc.proofs.MarkedAnswers.{unmarked-alike, unmarked-dist, whole-frame, whole-marks, sized-whole, marked-short, marked-repair-found, marked-repair-none, marked-repair-nearest, hits-sent}
use Rattle.dsc.proofs.Worked.{worked}

-- ---- refusals

not-both : (f m : List ℕ) → (length f ≢ 26) ⊎ (length m ≢ 26) → whole (marked m) f ≡ false
not-both f m (inl n) = ap (◌&& eqb (length m) 26) (ne_eqb (length f) 26 n)
not-both f m (inr n) = ap (eqb (length f) 26 &&◌) (ne_eqb (length m) 26 n) ∙ and-false (eqb (length f) 26)
  where
    and-false : (b : Bool) → b && false ≡ false
    and-false true = refl
    and-false false = refl

short-side : (f m : List ℕ) → whole (marked m) f ≡ false → (length f ≢ 26) ⊎ (length m ≢ 26)
short-side f m e = go (eqb (length f) 26) (eqb (length m) 26) refl refl e
  where
    go : (a b : Bool) → eqb (length f) 26 ≡ a → eqb (length m) 26 ≡ b → a && b ≡ false → (length f ≢ 26) ⊎ (length m ≢ 26)
    go false b p q z = inl (eqb-false (length f) 26 p)
    go true false p q z = inr (eqb-false (length m) 26 q)
    go true true p q z = absurd (true≢false z)

-- what holds of an answer by cases: of one code word's, of refusal 4 where there is none, of refusal 1
by_cases : (f m : List ℕ) (P : Answer → Type 0) → (whole (marked m) f ≡ false → P (refused_with 1))
    → (whole (marked m) f ≡ true → (c : List Bool) → CodeWord c → Few (protected m) (unmarked_dist (protected m) (protected f) c)
    → P (repaired_to c (unmarked_dist (protected m) (protected f) c)))
    → (whole (marked m) f ≡ true → NoneFew (protected m) (protected f) → P (refused_with 4)) → P (marked_repair_of f m)
by_cases f m P short few far = go (whole (marked m) f) refl
  where
    full : whole (marked m) f ≡ true → MarkedNearest (protected m) (protected f) → P (marked_repair_of f m)
    full w (one c k d) = subst P (sym (marked-repair-found f m w c k d)) (few w c k d)
    full w (none n) = subst P (sym (marked-repair-none f m w n)) (far w n)

    go : (t : Bool) → whole (marked m) f ≡ t → P (marked_repair_of f m)
    go false e = subst P (sym (marked-short f m e)) (short e)
    go true e = full e (marked-repair-nearest f m e)

answered : (f m : List ℕ) → whole (marked m) f ≡ true → FoundOrNone (protected m) (protected f) (marked_repair_of f m)
answered f m w = go (marked-repair-nearest f m w)
  where
    go : MarkedNearest (protected m) (protected f) → FoundOrNone (protected m) (protected f) (marked_repair_of f m)
    go (one c k d) = promises.found c k d (marked-repair-found f m w c k d)
    go (none n) = promises.none n (marked-repair-none f m w n)

short-if-refused : (f m : List ℕ) → number_of (marked_repair_of f m) ≡ 1 → (length f ≢ 26) ⊎ (length m ≢ 26)
short-if-refused f m =
    by_cases f m (λ (a : Answer). number_of a ≡ 1 → (length f ≢ 26) ⊎ (length m ≢ 26)) (λ e z. short-side f m e) (λ w c k d z. absurd (omega arith))
    (λ w n z. absurd (omega arith))

none-if-refused : (f m : List ℕ) → number_of (marked_repair_of f m) ≡ 4 → (length f ≡ 26) × (length m ≡ 26) × NoneFew (protected m) (protected f)
none-if-refused f m =
    by_cases f m (λ (a : Answer). number_of a ≡ 4 → (length f ≡ 26) × (length m ≡ 26) × NoneFew (protected m) (protected f)) (λ e z. absurd (omega arith))
    (λ w c k d z. absurd (omega arith)) (λ w n z. (whole-frame (marked m) f w, whole-marks m f w, n))

-- ---- what does not matter

-- two answers are one, where the sizes are alike and every code word is as far
alike : (f g m n : List ℕ) → whole (marked m) f ≡ whole (marked n) g → weight (protected m) ≡ weight (protected n)
    → ((c : List Bool) → unmarked_dist (protected m) (protected f) c ≡ unmarked_dist (protected n) (protected g) c) → marked_repair_of f m ≡ marked_repair_of g n
alike f g m n e s far =
    by_cases f m (λ (a : Answer). a ≡ marked_repair_of g n) (λ w. sym (marked-short g n (sym e ∙ w)))
    (λ w c k d. ap (repaired_to c) (far c) ∙ sym (marked-repair-found g n (sym e ∙ w) c k (omega (arith, far c))))
    (λ w z. sym (marked-repair-none g n (sym e ∙ w) (λ c k d. z c k (omega (arith, far c)))))

under-marks : (f g m : List ℕ) → length f ≡ length g → unmarked_in (protected m) (protected f) ≡ unmarked_in (protected m) (protected g)
    → marked_repair_of f m ≡ marked_repair_of g m
under-marks f g m l e =
    alike f g m m (ap (λ (x : ℕ). eqb x 26 && eqb (length m) 26) l) refl (λ c. unmarked-alike (protected m) (protected f) (protected g) c e)

marks-outside : (f m n : List ℕ) → length m ≡ length n → protected m ≡ protected n → marked_repair_of f m ≡ marked_repair_of f n
marks-outside f m n l e =
    alike f f m n (ap (λ (x : ℕ). eqb (length f) 26 && eqb x 26) l) (ap weight e) (λ c. ap (λ (x : List Bool). unmarked_dist x (protected f) c) e)

no-marks : (f m : List ℕ) → length m ≡ 26 → protected m ≡ zeros 187 → marked_repair_of f m ≡ repair_of f
no-marks f m h e =
    by_cases f m (λ (a : Answer). a ≡ repair_of f) (λ w. sym (repair-short f (λ l. no_size l (short-side f m w))))
    (λ w c k d. ap (repaired_to c) (all-count c k) ∙ sym (repair-found f (whole-frame (marked m) f w) c k (omega (arith, all-count c k, none-set))))
    (λ w z. sym (repair-none f (whole-frame (marked m) f w) (λ c k d. z c k (omega (arith, all-count c k, none-set)))))
  where
    no_size : length f ≡ 26 → (length f ≢ 26) ⊎ (length m ≢ 26) → ⊥
    no_size l (inl n) = n l
    no_size l (inr n) = n h

    none-set : weight (protected m) ≡ 0
    none-set = ap weight e ∙ weight-zeros 187

    all-count : (c : List Bool) → CodeWord c → unmarked_dist (protected m) (protected f) c ≡ dist (protected f) c
    all-count c k = unmarked-dist (protected m) (protected f) c e (length-add (protected f) c ∙ length-word c k)

-- ---- hits

module _ {t s : ℕ} {c e : List Bool} {f m : List ℕ} (h : HitMarked t s c e f m) where
  complete : whole (marked m) f ≡ true
  complete = sized-whole (marked m) f h.size h.marks-size

  from-sent : unmarked_dist (protected m) (protected f) c ≡ t
  from-sent = hits-sent (marked m) f c e h.sent h.places h.received ∙ h.number

  sent_word : 2 * t + s ≤ 17 → marked_repair_of f m ≡ repaired_to c t
  sent_word l = marked-repair-found f m complete c h.sent (omega (arith, from-sent, h.marks)) ∙ ap (repaired_to c) from-sent

  module _ (l : 18 ≤ 2 * t + s) (d : List Bool) (k : CodeWord d) (w : Few (protected m) (unmarked_dist (protected m) (protected f) d)) where
    not-sent : d ≢ c
    not-sent same = omega (arith, from-sent, h.marks, ap (unmarked_dist (protected m) (protected f)) same)

    from-other : 18 ≤ t + unmarked_dist (protected m) (protected f) d + s
    from-other =
        let far : 18 ≤ dist c d = distance18 c d h.sent k (λ same. not-sent (sym same)) in
        let near = marked-apart (protected m) (protected f) (length-protected m h.marks-size) (length-protected f h.size) c d h.sent k in
        omega (arith, from-sent, h.marks)

  beyond : 18 ≤ 2 * t + s → RefusedOrWrong (λ u. (2 * u + s ≤ 17) × (18 ≤ t + u + s)) c (marked_repair_of f m)
  beyond l = go (marked-repair-nearest f m complete)
    where
      go : MarkedNearest (protected m) (protected f) → RefusedOrWrong (λ u. (2 * u + s ≤ 17) × (18 ≤ t + u + s)) c (marked_repair_of f m)
      go (one d k w) =
          wrong d (unmarked_dist (protected m) (protected f) d) k (not-sent l d k w) (omega (arith, h.marks), from-other l d k w) (omega arith)
          (marked-repair-found f m complete d k w)
      go (none z) = refused (marked-repair-none f m complete z)

  -- where no count of a wrong word is possible
  only-refused : 18 ≤ 2 * t + s → ((u : ℕ) → 2 * u + s ≤ 17 → 18 ≤ t + u + s → ⊥) → marked_repair_of f m ≡ refused_with 4
  only-refused l no-count = go (beyond l)
    where
      go : RefusedOrWrong (λ u. (2 * u + s ≤ 17) × (18 ≤ t + u + s)) c (marked_repair_of f m) → marked_repair_of f m ≡ refused_with 4
      go (refused e) = e
      go (wrong d u k n p q e) = absurd (no-count u p.0 p.1)

pub doubtful-marks : DoubtfulMarks
doubtful-marks =
    record {
      answered = λ f m hf hm. answered f m (sized-whole (marked m) f hf hm);
      found = λ f m c hf hm. marked-repair-found f m (sized-whole (marked m) f hf hm) c;
      apart = λ ms r c d hm h. marked-apart ms r hm h c d;
      only_one = λ ms r c d hm h. marked-only-one ms r hm h c d;
      short = λ f m n. marked-short f m (not-both f m n);
      short-if-refused = short-if-refused;
      refused-if-none = λ f m hf hm. marked-repair-none f m (sized-whole (marked m) f hf hm);
      none-if-refused = none-if-refused;
      under-marks = under-marks;
      marks-outside = marks-outside;
      no-marks = no-marks;
      no-marks-tried = λ t r. ball-unmarked t (length r) r refl;
      gives-sent-word = λ t s l f m c e h. sent_word h l;
      beyond = λ t s l f m c e h. beyond h l;
      eighteen = λ t s l f m c e h. only-refused h (omega arith) (λ u p q. omega arith);
      many-marks = λ f m hf hm l. marked-repair-none f m (sized-whole (marked m) f hf hm) (λ c k d. omega arith);
      held = λ c e ms k le lm.
          record {
            size = length-word_bytes (add e c);
            marks-size = length-word_bytes ms;
            sent = k;
            places = le;
            number = ap (λ (x : List Bool). weight (unmarked_in x e)) (protected-word_bytes ms lm);
            marks = ap weight (protected-word_bytes ms lm);
            received = protected-word_bytes (add e c) (length-add e c ∙ length-word c k);
          };
    }

-- ---- the worked examples

-- the code word c, hit in the places of e, is r
marks-held : (t s : ℕ) (c e r ms : List Bool) → CodeWord c → length e ≡ 187 → length r ≡ 187 → length ms ≡ 187 → weight (unmarked_in ms e) ≡ t → weight ms ≡ s
    → r ≡ add e c → HitMarked t s c e (word_bytes r) (word_bytes ms)
marks-held t s c e r ms k le lr lm n w a =
    record {
      size = length-word_bytes r;
      marks-size = length-word_bytes ms;
      sent = k;
      places = le;
      number = ap (λ (x : List Bool). weight (unmarked_in x e)) (protected-word_bytes ms lm) ∙ n;
      marks = ap weight (protected-word_bytes ms lm) ∙ w;
      received = protected-word_bytes r lr ∙ a;
    }

pub marked-worked : MarkedWorked
unfolding first_places next_place generator_word powers poly member add filled digit
marked-worked =
    record {
      seventeen = sent_word (marks-held 0 17 (zeros 187) (zeros 187) (zeros 187) (first_places 17) zero refl refl refl refl refl refl) (omega arith);
      seventeen-and-one =
          sent_word (marks-held 0 17 generator_word (first_places 17) (next_place 17) (first_places 17) worked.example2 refl refl refl refl refl refl) (omega arith);
      sixteen-and-one =
          only-refused (marks-held 1 16 (zeros 187) (next_place 16) (next_place 16) (first_places 16) zero refl refl refl refl refl refl) (omega arith) (λ u p q. omega arith);
      fifteen-and-one = sent_word (marks-held 1 15 (zeros 187) (next_place 15) (next_place 15) (first_places 15) zero refl refl refl refl refl refl) (omega arith);
      eighteen-marks =
          only-refused (marks-held 0 18 (zeros 187) (zeros 187) (zeros 187) (first_places 18) zero refl refl refl refl refl refl) (omega arith) (λ u p q. omega arith);
    }
  where
    zero : CodeWord (zeros 187)
    zero = worked.example1
