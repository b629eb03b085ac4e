-- `dsc_encoder::parity` meets its contract. Assumes nothing.
use mathlib.Core.Path.{ap₂, ◌∙◌}
use native.Mathlib.Omega.{arith}
use lib.ListN.{take}
use lib.Seq.{length-take-le}
use Rattle.gf2.specs.Polynomial.{remainder}
use Rattle.dsc.proofs.Word.{parity-remainder}
use Rattle.dsc_encoder.proofs.parity.Goals as goal

pub returns : goal.returns
returns c =
    let w = c.args.w.now in
    c.last.ensures
    ∙ c.divide.ensures
    ∙ ap₂ (λ g w. remainder g 105 w) c.low-g.ensures c.shifted-d.ensures
    ∙ parity-remainder (take 105 w) (length-take-le 105 w (omega arith))
