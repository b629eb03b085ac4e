-- The register engine's promises. Assumes nothing.
use mathlib.Core.Path.{◌≡◌, refl, sym, ap, ◌∙◌}
use mathlib.Core.Bool.{Bool, true, false, cond, ◌&&◌, true≢false}
use mathlib.Core.List.{List}
use Prim.Native.Nat.{ℕ}
use lib.Dec.{eqb, leb}
use lib.ListN.{length}
use borrow.Author.Tests.{le-leb, leb-true, eqb-true}
use Rattle.dsc.specs.Code.{dist, all_zero, is_code_word}
use Rattle.dsc.specs.Repair.{decode, answer_to, repaired_to, refused_with, repair_of, protected}
use Rattle.dsc.proofs.Answers.{length-protected}
use Rattle.dsc.proofs.Majority.{length-flipped, answer-found, answer-none}
use Rattle.dsc_shift_register.specs.Register.{loaded, register_word, register_answer, register_repair_of}
use Rattle.dsc_register.specs.Promises.{RegisterEngine}
use Rattle.dsc_register.proofs.State.{loaded-remainder, register-flipped, word-zero, zero_word, zero-tested}

module _ (r : List Bool) (h : length r ≡ 187) where
  pub length-register : length (register_word r) ≡ 187
  length-register = ap length (register-flipped r h) ∙ length-flipped r r ∙ h

  pub register-answered : register_answer r ≡ answer_to r (decode r)
  unfolding register_answer
  register-answered = go (all_zero (loaded w)) (leb (dist r w) 8) refl refl
    where
      w : List Bool
      w = register_word r

      tested : all_zero (loaded w) ≡ is_code_word w
      tested = zero-tested w length-register

      go : (a b : Bool) → all_zero (loaded w) ≡ a → leb (dist r w) 8 ≡ b → cond (a && b) (repaired_to w (dist r w)) (refused_with 4) ≡ answer_to r (decode r)
      go true true e d = answer-found r h w (dist r w) (sym tested ∙ e) length-register refl (leb-true (dist r w) 8 d)
      go true false e d = answer-none r h w (register-flipped r h) (λ t l. true≢false (sym (le-leb (dist r w) 8 l) ∙ d))
      go false b e d = answer-none r h w (register-flipped r h) (λ t l. true≢false (sym t ∙ sym tested ∙ e))

pub register-repair : (f : List ℕ) → register_repair_of f ≡ repair_of f
unfolding register_repair_of repair_of
register-repair f = go (eqb (length f) 26) refl
  where
    go : (t : Bool) → eqb (length f) 26 ≡ t
        → cond t (register_answer (protected f)) (refused_with 1) ≡ cond t (answer_to (protected f) (decode (protected f))) (refused_with 1)
    go true e = register-answered (protected f) (length-protected f (eqb-true (length f) 26 e))
    go false e = refl

pub register-engine : RegisterEngine
register-engine =
    record {
      same_answer = register-repair;
      same_word = register-flipped;
      holds-remainder = loaded-remainder;
      zero-if-word = word-zero;
      word-if-zero = zero_word;
    }
