-- A code word is 2t+s places from the two fillings together, so that the plain repair of one of them finds it where 2t+s is at most 17. Assumes nothing.
use mathlib.Core.Path.{◌≡◌, refl, sym, ap, ◌∙◌, subst}
use mathlib.Core.Bool.{Bool, true, false, cond}
use mathlib.Core.List.{List, [], ◌∷◌}
use Prim.Native.Nat.{ℕ, zero, suc, ◌+◌, ◌*◌, ◌≤◌, ◌<◌}
use native.Mathlib.Nat.{suc_inj}
use native.Mathlib.Omega.{arith}
use lib.Dec.{ltb}
use lib.ListN.{length}
use borrow.Author.Tests.{ltb-true, ltb-false}
use Rattle.bits.specs.Bits.{digit}
use Rattle.gf2.specs.Polynomial.{◌⊕◌, add, zeros}
use Rattle.gf2.proofs.Sum.{length-add, add_same}
use Rattle.dsc.specs.Code.{CodeWord, weight, dist, is_code_word}
use Rattle.dsc.specs.Repair.{protected, word_bytes, decode, repaired_to, refused_with, number_of, answer_to}
use Rattle.dsc.specs.Marks.{filled, unmarked_dist, Few, decode_marked, marked_answer}
use Rattle.dsc.proofs.Word.{length-word, tested-word}
use Rattle.dsc.proofs.Weight.{weight-zeros}
use Rattle.dsc.proofs.Answers.{protected-word_bytes}
use Rattle.dsc.proofs.Decoding.{decode-found, decode-none, Nearest, one, none, nearest}
use Rattle.dsc.proofs.MarkedDecoding.{marked-found, marked-none}
use Rattle.dsc_marked.specs.Fillings.{Passed, Failed, NoneNear}

-- ---- the law of the two fillings: an unmarked place counts in both, a marked one in one of them

pub both-fillings : (ms r c : List Bool) → length ms ≡ length r → length r ≡ length c
    → dist (filled false ms r) c + dist (filled true ms r) c ≡ 2 * unmarked_dist ms r c + weight ms
unfolding filled add digit
both-fillings [] [] [] hm h = refl
both-fillings [] (a ∷ r) c hm h = absurd (omega arith)
both-fillings [] [] (b ∷ c) hm h = absurd (omega arith)
both-fillings (m ∷ ms) [] c hm h = absurd (omega arith)
both-fillings (m ∷ ms) (a ∷ r) [] hm h = absurd (omega arith)
both-fillings (m ∷ ms) (a ∷ r) (b ∷ c) hm h = omega (arith, first m a b, both-fillings ms r c (suc_inj hm) (suc_inj h))
  where
    first : (m a b : Bool) → digit (cond m false a ⊕ b) + digit (cond m true a ⊕ b) ≡ 2 * digit (cond m false (a ⊕ b)) + digit m
    first true a true = refl
    first true a false = refl
    first false true true = refl
    first false true false = refl
    first false false true = refl
    first false false false = refl

-- ---- with no mark set every place counts, and a word differs from itself in none

filled-unmarked : (b : Bool) (ms w : List Bool) → weight ms ≡ 0 → length ms ≡ length w → filled b ms w ≡ w
unfolding filled digit
filled-unmarked b [] w e h = refl
filled-unmarked b (m ∷ ms) [] e h = refl
filled-unmarked b (true ∷ ms) (a ∷ w) e h = absurd (omega arith)
filled-unmarked b (false ∷ ms) (a ∷ w) e h = ap (a ∷◌) (filled-unmarked b ms w (omega arith) (suc_inj h))

filled-zeros : (ms : List Bool) (n : ℕ) → filled false ms (zeros n) ≡ zeros n
unfolding filled
filled-zeros [] n = refl
filled-zeros (m ∷ ms) zero = refl
filled-zeros (true ∷ ms) (suc n) = ap (false ∷◌) (filled-zeros ms n)
filled-zeros (false ∷ ms) (suc n) = ap (false ∷◌) (filled-zeros ms n)

unmarked-same : (ms r : List Bool) → unmarked_dist ms r r ≡ 0
unmarked-same ms r = ap weight (ap (filled false ms) (add_same r) ∙ filled-zeros ms (length r)) ∙ weight-zeros (length r)

-- ---- what the plain repair of a word u says of the code words near u

same_word : (c d : List Bool) → length c ≡ 187 → length d ≡ 187 → word_bytes c ≡ word_bytes d → c ≡ d
same_word c d hc hd e = sym (protected-word_bytes c hc) ∙ ap protected e ∙ protected-word_bytes d hd

module _ (u : List Bool) (lu : length u ≡ 187) where
  -- the answer where the code word c is near
  answer-near : (c : List Bool) → CodeWord c → dist u c ≤ 8 → answer_to u (decode u) ≡ repaired_to c (dist u c)
  unfolding answer_to
  answer-near c k d = rw (decode-found u lu c k d)

  answer-far : ((c : List Bool) → CodeWord c → dist u c ≤ 8 → ⊥) → answer_to u (decode u) ≡ refused_with 4
  unfolding answer_to
  answer-far far = rw (decode-none u lu far)

  pub far_none : refused_with 4 ≡ answer_to u (decode u) → (c : List Bool) → CodeWord c → dist u c ≤ 8 → ⊥
  far_none q c k d = let z : ◌≡◌ {A = ℕ} 4 0 = ap number_of (q ∙ answer-near c k d) in omega arith

  module _ (w : List Bool) (lw : length w ≡ 187) {n : ℕ} (q : repaired_to w n ≡ answer_to u (decode u)) where
    pub found-only : (c : List Bool) → CodeWord c → dist u c ≤ 8 → c ≡ w
    found-only c k d = same_word c w (length-word c k) lw (sym (ap (λ a. a.word) (q ∙ answer-near c k d)))

    pub found_word : CodeWord w
    found_word = go (nearest u lu)
      where
        go : Nearest u → CodeWord w
        go (one c k d) = subst CodeWord (found-only c k d) k
        go (none far) = let z : ◌≡◌ {A = ℕ} 0 4 = ap number_of (q ∙ answer-far far) in absurd (omega arith)

-- ---- the answer

module _ (ms r : List Bool) (lm : length ms ≡ 187) (lr : length r ≡ 187) where
  pub passed : (w : List Bool) {n : ℕ} → CodeWord w → Passed ms r w n → repaired_to w n ≡ marked_answer ms r (decode_marked ms r)
  unfolding marked_answer
  passed w k p = rw (marked-found ms r lm lr w k p.few) (ap (repaired_to w) p.places)

  -- a received code word
  pub clean : is_code_word r ≡ true → weight ms ≤ 17 → repaired_to r 0 ≡ marked_answer ms r (decode_marked ms r)
  clean t h =
      let none = unmarked-same ms r in
      passed r (tested-word r lr t) (record { places = sym none; few = omega arith })

  pub no-marks : weight ms ≡ 0 → answer_to r (decode r) ≡ marked_answer ms r (decode_marked ms r)
  unfolding answer_to marked_answer
  no-marks e = go (nearest r lr)
    where
      all : (c : List Bool) → CodeWord c → unmarked_dist ms r c ≡ dist r c
      all c k = ap weight (filled-unmarked false ms (add r c) e (lm ∙ sym (length-add r c ∙ length-word c k)))

      go : Nearest r → answer_to r (decode r) ≡ marked_answer ms r (decode_marked ms r)
      go (one c k d) = rw (decode-found r lr c k d, marked-found ms r lm lr c k (omega (arith, all c k))) (ap (repaired_to c) (sym (all c k)))
      go (none far) = rw (decode-none r lr far, marked-none ms r lm lr (λ c k few. far c k (omega (arith, all c k))))

  pub too_many : 17 < weight ms → refused_with 4 ≡ marked_answer ms r (decode_marked ms r)
  unfolding marked_answer
  too_many h = rw (marked-none ms r lm lr (λ c k few. omega arith))

  pub neither : (u v : List Bool) → u ≡ filled false ms r → v ≡ filled true ms r → NoneNear ms r u → NoneNear ms r v
      → refused_with 4 ≡ marked_answer ms r (decode_marked ms r)
  unfolding marked_answer
  neither u v eu ev nu nv = rw (marked-none ms r lm lr far)
    where
      far : (c : List Bool) → CodeWord c → Few ms (unmarked_dist ms r c) → ⊥
      far c k few = go (ltb 8 (dist u c)) refl
        where
          both : dist u c + dist v c ≡ 2 * unmarked_dist ms r c + weight ms
          both = rw (eu, ev) (both-fillings ms r c (lm ∙ sym lr) (lr ∙ sym (length-word c k)))

          go : (t : Bool) → ltb 8 (dist u c) ≡ t → ⊥
          go true e = let l = ltb-true 8 (dist u c) e in nv.each c k few (omega (arith, both))
          go false e = nu.each c k few (ltb-false 8 (dist u c) e)

-- ---- one word, tested

-- a word found near u that fails: no other lies there
pub none-near : (ms r u : List Bool) → length u ≡ 187 → (w : List Bool) → length w ≡ 187 → {n : ℕ} → repaired_to w n ≡ answer_to u (decode u)
    → Failed ms r w → NoneNear ms r u
none-near ms r u lu w lw q f =
    record { each = λ c k few d. f.many (subst (λ c. Few ms (unmarked_dist ms r c)) (found-only u lu w lw q c k d) few) }

-- n counts the unmarked places: the errors e are cleared under the marks
module _ (ms r w : List Bool) {e d : List Bool} {n s : ℕ} (errors : e ≡ add r w) (cleared : d ≡ filled false ms e) (counted : n ≡ weight d) (marked : s ≡ weight ms) where
  unmarked-places : n ≡ unmarked_dist ms r w
  unmarked-places = counted ∙ ap weight (cleared ∙ ap (filled false ms) errors)

  pub over : 17 < 2 * n + s → Failed ms r w
  over h = record { many = λ few. omega (arith, unmarked-places) }

  pub within : 2 * n + s ≤ 17 → Passed ms r w n
  within h = record { places = unmarked-places; few = omega (arith, unmarked-places) }
