-- The register engine's answer by cases, one law for each way out of the functions. Assumes nothing.
use mathlib.Core.Path.{◌≡◌, refl, sym, ap, ap₂, ◌∙◌}
use mathlib.Core.Bool.{Bool, true, false, cond, ◌&&◌, and-false}
use mathlib.Core.List.{List}
use mathlib.Core.Logic.{◌≢◌}
use Prim.Native.Nat.{ℕ, ◌≤◌, ◌<◌}
use lib.Dec.{leb}
use lib.ListN.{length}
use borrow.Author.Tests.{eq-eqb, ne_eqb, le-leb, lt-leb}
use Rattle.dsc.specs.Code.{dist, all_zero}
use Rattle.dsc.specs.Repair.{protected, repaired_to, refused_with, repair_of, Repairs}
use Rattle.dsc.specs.declared.Answer.{Answer}
use Rattle.dsc.proofs.Answers.{met}
use Rattle.dsc_shift_register.specs.Register.{loaded, register_word, register_answer, register_repair_of}
use Rattle.dsc_register.proofs.Promises.{register-repair}

-- the word w that the register came to
module _ (r w : List Bool) (e : w ≡ register_word r) where
  tests : (n : ℕ) → n ≡ dist r w → cond (all_zero (loaded w) && leb n 8) (repaired_to w n) (refused_with 4) ≡ register_answer r
  unfolding register_answer
  tests n h = rw (h, e)

  pub answer-not-word : all_zero (loaded w) ≡ false → refused_with 4 ≡ register_answer r
  answer-not-word z = sym (ap (λ t. cond (t && leb (dist r w) 8) (repaired_to w (dist r w)) (refused_with 4)) z) ∙ tests (dist r w) refl

  module _ (n : ℕ) (h : n ≡ dist r w) where
    pub answer-far : 8 < n → refused_with 4 ≡ register_answer r
    answer-far d =
        sym (ap (λ t. cond t (repaired_to w n) (refused_with 4)) (ap (all_zero (loaded w) &&◌) (lt-leb n 8 d) ∙ and-false (all_zero (loaded w)))) ∙ tests n h

    pub answer-near : all_zero (loaded w) ≡ true → n ≤ 8 → repaired_to w n ≡ register_answer r
    answer-near z d = sym (ap₂ (λ t u. cond (t && u) (repaired_to w n) (refused_with 4)) z (le-leb n 8 d)) ∙ tests n h

pub repair-short : (f : List ℕ) → length f ≢ 26 → refused_with 1 ≡ register_repair_of f
unfolding register_repair_of
repair-short f h = rw (ne_eqb (length f) 26 h)

pub repair-long : (f : List ℕ) → length f ≡ 26 → register_answer (protected f) ≡ register_repair_of f
unfolding register_repair_of
repair-long f h = rw (eq-eqb (length f) 26 h)

-- the register's answer meets demand 3: what the function promises
pub register-met : (f : List ℕ) (a : Answer) → a ≡ register_repair_of f → (Repairs f a × (a ≡ repair_of f)) × (a ≡ register_repair_of f)
register-met f a e = (met f a (e ∙ register-repair f), e)
