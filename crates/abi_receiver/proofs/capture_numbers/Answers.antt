-- `abi_receiver::capture_numbers` meets its contract. Assumes nothing.
use mathlib.Core.Path.{◌≡◌, ◌∙◌, ap}
use Rattle.frame.specs.declared.Edition.{Edition}
use Rattle.abi.specs.Status.{status_of}
use Rattle.capture.specs.declared.TunerNumbers.{TunerNumbers}
use Rattle.abi_receiver.specs.Receiver.{capture_numbers}
use Rattle.abi_receiver.proofs.capture_numbers.Goals as goal

pub returns : goal.returns
returns c =
    let s = c.args in
    let told : c.status.result ≡ status_of c.numbers-numbers.result.main c.numbers-numbers.result.spare = c.status.ensures in
    told
    ∙ ap (λ (t : TunerNumbers). status_of t.main t.spare) c.numbers-numbers.ensures
    ∙ ap (λ (e : Edition). capture_numbers e s.main.now s.spare.now s.n) c.edition_of.ensures
