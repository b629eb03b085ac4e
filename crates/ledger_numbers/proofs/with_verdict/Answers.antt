-- `ledger_numbers::with_verdict` meets its contract. Assumes nothing.
use mathlib.Core.Path.{◌≡◌}
use Prim.Native.Nat.{◌-◌}
use native.Mathlib.Omega.{arith}
use borrow.Author.Rules.{rules}
use lib.ListN.{length}
use Rattle.bits.proofs.Layouts.{sum-next}
use Rattle.ledger.proofs.Possible.{Counts, possible-counts}
use Rattle.ledger.proofs.Verdicts.{with-accepted, with-refused}
use Rattle.ledger_numbers.proofs.with_verdict.Goals as goal
use Rattle.ledger_numbers.proofs.with_verdict.Goals.{After-refused-1, Start}

-- the numbers are those of a possible ledger
counts : (c : Start) → Counts c.args.ledger
counts c = possible-counts c.args.ledger c.requires.ledger_value

nine : (c : After-refused-1) → length c.args.ledger.refused ≡ 9
nine c = search rules

pub overflow_add-result : goal.overflow_add-result
overflow_add-result c = let k = counts (goal.at.overflow_add-result c).Start in omega arith

pub overflow_add-result-then-verdict-eq0 : goal.overflow_add-result-then-verdict-eq0
overflow_add-result-then-verdict-eq0 c = let k = counts (goal.at.overflow_add-result-then-verdict-eq0 c).Start in omega arith

pub overflow_add-result-then-verdict-eq0-2 : goal.overflow_add-result-then-verdict-eq0-2
overflow_add-result-then-verdict-eq0-2 c = let k = counts (goal.at.overflow_add-result-then-verdict-eq0-2 c).Start in omega arith

pub returns-then-verdict-eq0 : goal.returns-then-verdict-eq0
returns-then-verdict-eq0 c =
    let a = c.args in
    with-accepted a.ledger a.verdict _ c.places_counted-places.ensures c.if-verdict-eq0.true

pub overflow_add-refused : goal.overflow_add-refused
overflow_add-refused c =
    let k = counts (goal.at.overflow_add-refused c).Start in
    let e = nine (goal.at.overflow_add-refused c).After-refused-1 in
    omega (arith, sum-next c.args.ledger.refused (c.args.verdict.number - 1) (omega arith))

pub overflow_add-result-2 : goal.overflow_add-result-2
overflow_add-result-2 c = let k = counts (goal.at.overflow_add-result-2 c).Start in omega arith

pub overflow_add-result-3 : goal.overflow_add-result-3
overflow_add-result-3 c = let k = counts (goal.at.overflow_add-result-3 c).Start in omega arith

pub returns : goal.returns
returns c =
    let a = c.args in
    with-refused a.ledger a.verdict _ c.places_counted-places.ensures c.if-verdict-eq0.false
