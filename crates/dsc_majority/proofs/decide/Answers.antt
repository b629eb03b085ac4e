-- `dsc_majority::decide` meets its contract. Assumes nothing.
use mathlib.Core.Path.{ap, ◌∙◌}
use lib.Dec.{leb}
use Rattle.gf2.specs.Polynomial.{◌⊕◌}
use Rattle.dsc_bits.proofs.Steps.{ne-xor}
use Rattle.dsc_majority.proofs.decide.Goals as goal

pub returns : goal.returns
returns c =
    let b = c.args.b in
    ne-xor b (leb 9 c.failure_count.result) ∙ ap (λ n. b ⊕ leb 9 n) c.failure_count.ensures
