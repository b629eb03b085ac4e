-- `frame_kinds::schedule1` meets its contract. Assumes nothing.
use native.Mathlib.Omega.{arith}
use borrow.Author.Tests.{eq-eqb, ne_eqb, le-leb, lt-leb}
use Rattle.frame_kinds.proofs.schedule1.Goals as goal

pub returns-then-identification-le3 : goal.returns-then-identification-le3
returns-then-identification-le3 c = rw (le-leb c.args.identification 3 (omega arith))

pub returns-then-identification-eq7 : goal.returns-then-identification-eq7
returns-then-identification-eq7 c =
    let n = c.args.identification in
    rw (lt-leb n 3 (omega arith), eq-eqb n 7 c.if-identification-eq7.true)

pub returns : goal.returns
returns c =
    let n = c.args.identification in
    rw (lt-leb n 3 (omega arith), ne_eqb n 7 c.if-identification-eq7.false)
