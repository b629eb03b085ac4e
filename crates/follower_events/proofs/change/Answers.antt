-- `follower_events::change` meets its contract. Assumes nothing.
use mathlib.Core.Path.{◌∙◌}
use Prim.Native.Nat.{◌+◌, ◌%◌}
use native.Mathlib.Omega.{arith}
use borrow.Author.Tests.{eq-eqb, ne_eqb}
use Rattle.follower_events.specs.Events.{change_of}
use Rattle.follower_events.proofs.change.Goals as goal

pub returns-then-new-old : goal.returns-then-new-old
unfolding change_of
returns-then-new-old c = rw (eq-eqb _ _ c.if-new-old.true)

pub returns-then-new-old-2 : goal.returns-then-new-old-2
unfolding change_of
returns-then-new-old-2 c =
    let old = c.args.old in
    let new = c.args.new in
    rw (ne_eqb new old c.if-new-old.false, eq-eqb new ((old + 1) % 4) (omega arith))

pub returns : goal.returns
unfolding change_of
returns c =
    let old = c.args.old in
    let new = c.args.new in
    rw (ne_eqb new old c.if-new-old.false, ne_eqb new ((old + 1) % 4) (λ e. c.if-new-old-2.false (e ∙ (omega arith))))
