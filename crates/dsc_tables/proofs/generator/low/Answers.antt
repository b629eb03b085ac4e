-- `dsc_tables::generator::low` meets its contract: the powers of the definition give these coefficients. Assumes nothing.
use mathlib.Core.Path.{refl}
use Rattle.gf2.specs.Polynomial.{poly, member}
use Rattle.dsc.specs.Code.{powers, generator_low}
use Rattle.dsc_tables.proofs.generator.low.Goals as goal

pub returns : goal.returns
unfolding generator_low powers poly member
returns c = refl
