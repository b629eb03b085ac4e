use mathlib.Core.Path.{sym}
use native.Mathlib.Omega.{arith}
use Rattle.bits.proofs.Field.{within-room, within-wide, within-past}
use Rattle.bit_fields.proofs.inside.Goals as goal

pub returns-then-width-gt64 : goal.returns-then-width-gt64
returns-then-width-gt64 c =
    let a = c.args in
    sym (within-wide a.n a.at a.width c.if-width-gt64.true)

pub returns-then-n-first : goal.returns-then-n-first
returns-then-n-first c =
    let a = c.args in
    sym (within-past a.n a.at a.width (omega arith))

pub returns-then-n-first-2 : goal.returns-then-n-first-2
returns-then-n-first-2 c =
    let a = c.args in
    sym (within-past a.n a.at a.width (omega arith))

pub returns : goal.returns
returns c =
    let a = c.args in
    sym (within-room a.n a.at a.width (omega arith) (omega arith))
