-- `abi_edition::edition_of` meets its contract. Assumes nothing.
use mathlib.Core.Path.{sym, ap}
use mathlib.Core.Bool.{Bool, cond}
use borrow.Author.Tests.{eq-eqb, ne_eqb}
use Rattle.abi_edition.specs.Edition.{edition_of}
use Rattle.frame.specs.declared.Edition.TheVariants.{First, AreaSafety}
use Rattle.abi_edition.proofs.edition_of.Goals as goal

pub returns-then-number-eq1 : goal.returns-then-number-eq1
unfolding edition_of
returns-then-number-eq1 c = ap (λ (t : Bool). cond t AreaSafety First) (sym (eq-eqb c.args.number 1 c.if-number-eq1.true))

pub returns : goal.returns
unfolding edition_of
returns c = ap (λ (t : Bool). cond t AreaSafety First) (sym (ne_eqb c.args.number 1 c.if-number-eq1.false))
