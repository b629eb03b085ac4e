-- `listing_lines::put_places` meets its contract. Assumes nothing.
use native.Mathlib.Omega.{arith}
use borrow.Author.Tests.{eq-eqb, ne_eqb}
use Rattle.decimals.proofs.Decimals.{length-byte}
use Rattle.listing_lines.proofs.put_places.Goals as goal

pub put_decimal-requires : goal.put_decimal-requires
put_decimal-requires c = omega (arith, length-byte c.args.verdict.repaired (omega arith))

pub returns-then-verdict-eq0 : goal.returns-then-verdict-eq0
returns-then-verdict-eq0 c = rw (eq-eqb c.args.verdict.number 0 (omega arith)) c.put_decimal.ensures

pub returns : goal.returns
returns c = rw (ne_eqb c.args.verdict.number 0 (λ e. omega arith)) c.put_byte.ensures
