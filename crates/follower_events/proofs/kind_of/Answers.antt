-- `follower_events::kind_of` meets its contract. Assumes nothing.
use native.Mathlib.Omega.{arith}
use borrow.Author.Tests.{le-leb, lt-leb, eq-eqb, ne_eqb}
use Rattle.follower_events.specs.Events.{kind_of}
use Rattle.follower_events.proofs.kind_of.Goals as goal

pub returns-then-identification-le1 : goal.returns-then-identification-le1
unfolding kind_of
returns-then-identification-le1 c = rw (le-leb c.args.identification 1 (omega arith))

pub returns-then-identification-le3 : goal.returns-then-identification-le3
unfolding kind_of
returns-then-identification-le3 c =
    let i = c.args.identification in
    rw (lt-leb i 1 (omega arith), le-leb i 3 (omega arith))

pub returns-then-identification-eq5 : goal.returns-then-identification-eq5
unfolding kind_of
returns-then-identification-eq5 c =
    let i = c.args.identification in
    rw (lt-leb i 1 (omega arith), lt-leb i 3 (omega arith), eq-eqb i 5 c.if-identification-eq5.true)

pub returns : goal.returns
unfolding kind_of
returns c =
    let i = c.args.identification in
    rw (lt-leb i 1 (omega arith), lt-leb i 3 (omega arith), ne_eqb i 5 c.if-identification-eq5.false)
