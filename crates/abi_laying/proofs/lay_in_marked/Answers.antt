-- `abi_laying::lay_in_marked` meets its contract. Assumes nothing.
use mathlib.Core.Path.{◌≡◌, ◌∙◌, ap}
use Prim.Native.Nat.{ℕ}
use Rattle.dsc.specs.Marks.{marked}
use Rattle.frame.specs.declared.Edition.{Edition}
use Rattle.header_laying.specs.Laying.{lay_in_of}
use Rattle.abi.specs.Status.{status_of}
use Rattle.abi_laying.specs.Laying.{lay_in_status}
use Rattle.abi_laying.proofs.lay_in_marked.Goals as goal

pub returns : goal.returns
returns c =
    let s = c.args in
    let q = marked s.marks.now in
    let h = s.header.now in
    let f = s.frame.now in
    let told : c.status.result ≡ status_of c.lay_in_marked-laid.result 0 = c.status.ensures in record { status = told ∙ ap (λ (n : ℕ). status_of n 0) c.lay_in_marked-laid.ensures.number ∙ ap (λ (e : Edition). lay_in_status e q h f) c.edition_of-named.ensures; header = c.lay_in_marked-laid.ensures.header ∙ ap (λ (e : Edition). lay_in_of e q h f) c.edition_of-named.ensures }
