-- `header_reader::read` meets its contract. Assumes nothing.
use native.Mathlib.Omega.{arith}
use Rattle.header_reader.proofs.HeaderRefusals.{short-refused, read-refused, read_found}
use Rattle.header_reader.proofs.read.Goals as goal

pub returns-then-h-ne188 : goal.returns-then-h-ne188
returns-then-h-ne188 c =
    let h = c.args.h.now in
    read-refused h 1 c.no_header.result (short-refused h c.if-h-ne188.true) (λ z. omega arith) c.no_header.ensures

pub returns-then-number-ne0 : goal.returns-then-number-ne0
returns-then-number-ne0 c =
    read-refused c.args.h.now c.refusal_of-number.result c.no_header-then-number-ne0.result c.refusal_of-number.ensures c.if-number-ne0.true c.no_header-then-number-ne0.ensures

pub returns : goal.returns
returns c =
    read_found c.args.h.now c.refusal_of-number.result c.find_front-first.result c.find_extension-second.result c.refusal_of-number.ensures c.if-number-ne0.false c.find_front-first.ensures c.find_extension-second.ensures
