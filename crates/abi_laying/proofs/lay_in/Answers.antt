-- `abi_laying::lay_in` meets its contract: the number and the header are those of `header_inserter::lay_in`. `search` finds this too; the file is here so that a wrong
-- answer is refused by the fact that fails. Assumes nothing.
use mathlib.Core.Path.{◌≡◌, ◌∙◌, ap}
use Prim.Native.Nat.{ℕ}
use Rattle.dsc.specs.Marks.{unmarked}
use Rattle.frame.specs.declared.Edition.{Edition}
use Rattle.header_laying.specs.Laying.{lay_in_of}
use Rattle.abi.specs.Status.{status_of}
use Rattle.abi_laying.specs.Laying.{lay_in_status}
use Rattle.abi_laying.proofs.lay_in.Goals as goal

pub returns : goal.returns
returns c =
    let s = c.args in
    let h = s.header.now in
    let f = s.frame.now in
    let told : c.status.result ≡ status_of c.lay_in.result 0 = c.status.ensures in record { status = told ∙ ap (λ (n : ℕ). status_of n 0) c.lay_in.ensures.number ∙ ap (λ (e : Edition). lay_in_status e unmarked h f) c.edition_of.ensures; header = c.lay_in.ensures.header ∙ ap (λ (e : Edition). lay_in_of e unmarked h f) c.edition_of.ensures }
