-- What the functions return and leave, by the cases that their code tells apart. Assumes nothing.
use mathlib.Core.Path.{◌≡◌, refl, sym, ◌∙◌}
use mathlib.Core.Bool.{cond}
use mathlib.Core.List.{List, ◌++◌, append-nil}
use mathlib.Core.Logic.{◌≢◌}
use Prim.Native.Nat.{ℕ, ◌≤◌}
use native.Mathlib.Omega.{arith}
use lib.Dec.{eqb}
use lib.ListN.{length, take, drop, drop_of_length-le}
use lib.Seq.{take-length}
use borrow.Author.Tests.{eq-eqb, ne_eqb}
use Rattle.dsc.specs.Marks.{Marking, repair_by}
use Rattle.dsc.specs.Repair.{number_of, outcome_number, outcome_places, left_in}
use Rattle.dsc.specs.declared.Answer.{Answer}
use Rattle.dsc.specs.declared.Outcome.{Outcome}
use Rattle.dsc.specs.declared.Outcome.TheVariants as outcome
use Rattle.dsc.proofs.Answers.{length-word_bytes}
use Rattle.dsc.proofs.MarkedAnswers.{each-answer}
use Rattle.abi.specs.Status.{status_of}
use Rattle.abi_repair.specs.Repair.{repair_status, repair_word}

-- ---- an outcome and an answer, whichever they are

-- equal outcomes have the same status
pub status-at : {s : ℕ} {o p : Outcome} → o ≡ p → s ≡ status_of (outcome_number p) (outcome_places p) → s ≡ status_of (outcome_number o) (outcome_places o)
status-at e k = rw e k

-- a copy into a buffer of the same length replaces all of it
copied : (s d : List ℕ) → length s ≡ length d → take (length s) s ++ drop (length s) d ≡ s
copied s d h = let z : length d ≤ length s = omega arith in rw (take-length s, drop_of_length-le d z) (append-nil s)

-- g is what a copy of the answer's word leaves
pub left-repaired : (a : Answer) (w : List ℕ) {n : ℕ} {g : List ℕ} → length a.word ≡ length w → a.outcome ≡ outcome.Repaired n
    → g ≡ take (length a.word) a.word ++ drop (length a.word) w → g ≡ left_in a w
left-repaired a w h e k = rw e (k ∙ copied a.word w h)

-- ---- the answer to the frame f, marked as q says

pub wrong-buffer : (q : Marking) (f w : List ℕ) → length w ≢ 26 → (status_of 1 0 ≡ repair_status q f w) × (w ≡ repair_word q f w)
unfolding repair_status repair_word
wrong-buffer q f w h = rw (ne_eqb (length w) 26 h) (refl, refl)

module _ (q : Marking) (f w : List ℕ) (h : length w ≡ 26) where
  pub word-length : {a : Answer} → a ≡ repair_by q f → length a.word ≡ length w
  word-length e = rw (e, h) (each-answer q f (λ r. length r.word ≡ 26) (λ c n. length-word_bytes c) refl refl)

  -- no refusal has the number 0
  left_word : left_in (repair_by q f) w ≡ cond (eqb (number_of (repair_by q f)) 0) (repair_by q f).word w
  left_word = each-answer q f (λ r. left_in r w ≡ cond (eqb (number_of r) 0) r.word w) (λ c n. refl) refl refl

  -- the outcome told and the buffer left, whichever engine gave them
  pub told : {o : Outcome} {s : ℕ} {g : List ℕ} → o ≡ (repair_by q f).outcome → s ≡ status_of (outcome_number o) (outcome_places o) → g ≡ left_in (repair_by q f) w
      → (s ≡ repair_status q f w) × (g ≡ repair_word q f w)
  unfolding repair_status repair_word
  told e k l = rw (eq-eqb (length w) 26 h) (status-at (sym e) k, l ∙ left_word)
