-- `abi_receiver::capture_source` meets its contract. Assumes nothing.
use mathlib.Core.Path.{ap, ◌∙◌}
use Rattle.frame.specs.declared.Edition.{Edition}
use Rattle.abi_tuner.specs.Tuner.{tuner_number}
use Rattle.abi_receiver.specs.Receiver.{capture_source}
use Rattle.abi_receiver.proofs.capture_source.Goals as goal

pub returns : goal.returns
returns c =
    let s = c.args in
    c.tuner_number.ensures
    ∙ ap tuner_number c.source.ensures
    ∙ ap (λ (e : Edition). capture_source e s.main.now s.spare.now s.n) c.edition_of.ensures
