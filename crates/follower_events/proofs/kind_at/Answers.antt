-- `follower_events::kind_at` meets its contract. Assumes nothing.
use borrow.Author.Tests.{eq-eqb, ne_eqb}
use Rattle.follower_events.specs.Events.{kind_at}
use Rattle.follower_events.proofs.kind_at.Goals as goal

pub returns-then-number-eq1 : goal.returns-then-number-eq1
unfolding kind_at
returns-then-number-eq1 c = rw (eq-eqb c.args.number 1 c.if-number-eq1.true)

pub returns-then-number-eq2 : goal.returns-then-number-eq2
unfolding kind_at
returns-then-number-eq2 c =
    let n = c.args.number in
    rw (ne_eqb n 1 c.if-number-eq1.false, eq-eqb n 2 c.if-number-eq2.true)

pub returns-then-number-eq3 : goal.returns-then-number-eq3
unfolding kind_at
returns-then-number-eq3 c =
    let n = c.args.number in
    rw (ne_eqb n 1 c.if-number-eq1.false, ne_eqb n 2 c.if-number-eq2.false, eq-eqb n 3 c.if-number-eq3.true)

pub returns : goal.returns
unfolding kind_at
returns c =
    let n = c.args.number in
    rw (ne_eqb n 1 c.if-number-eq1.false, ne_eqb n 2 c.if-number-eq2.false, ne_eqb n 3 c.if-number-eq3.false)
