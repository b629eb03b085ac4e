-- `abi_header::header_write` meets its contract. Assumes nothing.
use mathlib.Core.Path.{refl}
use Rattle.header.specs.Header.{write_number, write_of}
use Rattle.abi.proofs.Writing.{Written, write-wrong, write-answered}
use Rattle.abi_header.specs.Header.{header_from, header_write_status, header_write_bytes}
use Rattle.abi_header.proofs.header_write.Goals as goal

written : Written 145 header_from write_number write_of header_write_status header_write_bytes
unfolding header_write_status header_write_bytes
written = record { is-status = λ v s. refl; is-buffer = λ v s. refl }

pub returns-then-values-ne145 : goal.returns-then-values-ne145
returns-then-values-ne145 c =
    let both = write-wrong written _ _ c.if-values-ne145.true c.status.ensures refl in
    record { status = both.0; header = both.1 }

pub returns : goal.returns
returns c =
    let both = write-answered written _ _ c.if-values-ne145.false c.header_from.ensures c.write.ensures.number c.status-2.ensures c.write.ensures.buffer in
    record { status = both.0; header = both.1 }
