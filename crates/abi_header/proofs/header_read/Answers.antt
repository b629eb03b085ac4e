-- `abi_header::header_read` meets its contract. Assumes nothing.
use mathlib.Core.Path.{refl}
use Rattle.abi_header.proofs.Cases.{read-wrong, read-refused, read-accepted}
use Rattle.abi_header.proofs.header_read.Goals as goal

pub returns-then-values-ne145 : goal.returns-then-values-ne145
returns-then-values-ne145 c =
    let both = read-wrong _ _ c.if-values-ne145.true c.status.ensures refl in
    record { status = both.0; values = both.1 }

pub returns-then-reading-ne0 : goal.returns-then-reading-ne0
returns-then-reading-ne0 c =
    let both = read-refused _ _ _ c.if-values-ne145.false c.read-reading.ensures c.if-reading-ne0.true c.status-then-reading-ne0.ensures refl in
    record { status = both.0; values = both.1 }

pub returns : goal.returns
returns c =
    let both = read-accepted _ _ _ c.if-values-ne145.false c.read-reading.ensures c.if-reading-ne0.false c.status-2.ensures c.put_fields.ensures in
    record { status = both.0; values = both.1 }
