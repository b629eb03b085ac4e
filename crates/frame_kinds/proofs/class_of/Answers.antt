-- `frame_kinds::class_of` meets its contract. Assumes nothing.
use mathlib.Core.Path.{◌≡◌, ◌∙◌}
use Prim.Native.Nat.{ℕ}
use borrow.Author.Tests.{ne_eqb}
use Rattle.frame.specs.Identification.{schedule1, class_of}
use Rattle.frame.specs.declared.Edition.{Edition}
use Rattle.frame.specs.declared.Edition.TheVariants.{First, AreaSafety}
use Rattle.frame.specs.declared.Class.TheVariants.{SafetyInformation}
use Rattle.frame_kinds.proofs.class_of.Goals as goal

-- `frame_kinds::class_of` meets its contract. Assumes nothing.
first : {ed : Edition} (i : ℕ) → ed ≡ First → schedule1 i ≡ class_of ed i
unfolding class_of
first i e = rw e

-- the area safety edition
module _ {ed : Edition} (i : ℕ) (edition : ed ≡ AreaSafety) where
  information : i ≡ 5 → SafetyInformation ≡ class_of ed i
  unfolding class_of
  information five = rw (edition, five)

  module _ (other : i ≡ 5 → ⊥) where
    its-test : i ≡ 6 → SafetyInformation ≡ class_of ed i
    unfolding class_of
    its-test six = rw (edition, six)

    elsewhere : (i ≡ 6 → ⊥) → schedule1 i ≡ class_of ed i
    unfolding class_of
    elsewhere neither = rw (edition, ne_eqb i 5 other, ne_eqb i 6 neither)

pub returns-then-identification-eq5 : goal.returns-then-identification-eq5
returns-then-identification-eq5 c = information c.args.identification c.in-AreaSafety.is c.if-identification-eq5.true

pub returns-then-identification-eq6 : goal.returns-then-identification-eq6
returns-then-identification-eq6 c = its-test c.args.identification c.in-AreaSafety.is c.if-identification-eq5.false c.if-identification-eq6.true

pub returns-in-First : goal.returns-in-First
returns-in-First c = c.schedule1.ensures ∙ first c.args.identification c.in-First.is

pub returns-else-identification-eq6 : goal.returns-else-identification-eq6
returns-else-identification-eq6 c =
    c.schedule1-in-AreaSafety.ensures
    ∙ elsewhere c.args.identification c.in-AreaSafety.is
    c.if-identification-eq5.false c.if-identification-eq6.false
