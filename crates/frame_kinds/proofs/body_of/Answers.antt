-- `frame_kinds::body_of` meets its contract. Assumes nothing.
use mathlib.Core.Path.{◌≡◌}
use Prim.Native.Nat.{ℕ}
use borrow.Author.Tests.{eq-eqb, ne_eqb}
use Rattle.frame.specs.Body.{body_of}
use Rattle.frame.specs.declared.Class.{Class}
use Rattle.frame.specs.declared.Class.TheVariants.{Warning}
use Rattle.frame.specs.declared.Body.TheVariants.{AreaPage, PlacePage, CancelPage}
use Rattle.frame_kinds.proofs.body_of.Goals as goal

-- `frame_kinds::body_of` meets its contract. Assumes nothing.
-- a warning's body, by its page and kind
module _ (c : Class) (page kind : ℕ) (warning : c ≡ Warning) where
  areas : (page ≡ 1 → ⊥) → AreaPage ≡ body_of c page kind
  areas p = rw (warning, ne_eqb page 1 p)

  cancelled : page ≡ 1 → kind ≡ 1 → CancelPage ≡ body_of c page kind
  cancelled p k = rw (warning, eq-eqb page 1 p, eq-eqb kind 1 k)

  placed : page ≡ 1 → (kind ≡ 1 → ⊥) → PlacePage ≡ body_of c page kind
  placed p k = rw (warning, eq-eqb page 1 p, ne_eqb kind 1 k)

pub returns-then-page-ne1 : goal.returns-then-page-ne1
returns-then-page-ne1 c = let s = c.args in areas s.class s.page s.kind c.in-Warning.is c.if-page-ne1.true

pub returns-then-kind-eq1 : goal.returns-then-kind-eq1
returns-then-kind-eq1 c =
    let s = c.args in
    cancelled s.class s.page s.kind c.in-Warning.is c.if-page-ne1.false c.if-kind-eq1.true

pub returns-else-kind-eq1 : goal.returns-else-kind-eq1
returns-else-kind-eq1 c =
    let s = c.args in
    placed s.class s.page s.kind c.in-Warning.is c.if-page-ne1.false c.if-kind-eq1.false
