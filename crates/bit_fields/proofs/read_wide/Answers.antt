-- `bits::read_wide` meets its contract. Assumes nothing.
use mathlib.Core.Path.{◌∙◌}
use native.Mathlib.Omega.{arith}
use Rattle.bits.proofs.Field.{field-of-eight, field-none}
use Rattle.bit_fields.proofs.read_wide.Goals as goal

pub returns-then-width-eq0 : goal.returns-then-width-eq0
returns-then-width-eq0 c = field-none c.args.s.now c.args.at c.args.width (omega arith)

pub returns : goal.returns
returns c =
    let a = c.args in
    c.low_bits.ensures ∙ field-of-eight a.s.now a.at a.width c.eight.result (omega arith) (omega arith) (omega arith) c.eight.ensures
