-- What the writer leaves in its buffer. Assumes nothing.
use mathlib.Core.Path.{◌≡◌, refl, ap, ◌∙◌}
use mathlib.Core.Bool.{cond}
use mathlib.Core.Logic.{◌≢◌}
use mathlib.Core.List.{List}
use Prim.Native.Nat.{ℕ}
use lib.Dec.{eqb}
use lib.ListN.{length}
use borrow.Author.Tests.{ne_eqb}
use Rattle.frame.specs.Write.{Legal, record_refusal, frame_of, write_number, write_of}
use Rattle.frame.specs.declared.Edition.{Edition}
use Rattle.frame.specs.declared.Record.{Record}

module _ (ed : Edition) where
  pub left : (r : Record) (s : List ℕ) → write_number ed r (length s) ≡ 0 → write_of ed r s ≡ frame_of ed r
  unfolding write_of
  left r s e = ap (λ n. cond (eqb n 0) (frame_of ed r) s) e

  pub unchanged : (r : Record) (s : List ℕ) → write_number ed r (length s) ≢ 0 → write_of ed r s ≡ s
  unfolding write_of
  unchanged r s h = rw (ne_eqb (write_number ed r (length s)) 0 h)

  pub legal-exactly : (r : Record) → write_number ed r 26 ≡ record_refusal ed r
  unfolding write_number
  legal-exactly r = refl

  pub written : (r : Record) (s : List ℕ) → Legal ed r → length s ≡ 26 → write_of ed r s ≡ frame_of ed r
  written r s l h = left r s (ap (write_number ed r) h ∙ legal-exactly r ∙ l)
