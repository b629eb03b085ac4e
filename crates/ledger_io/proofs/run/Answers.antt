use Rattle.std.proofs.Common.{rules, arith, sym, ap, subst, IfSome}
use Rattle.ledger_input.specs.Input.{Standing}
use Rattle.ledger_input.specs.declared.LedgerTurn.{LedgerTurn}
use Rattle.ledger_input.proofs.Turns.{begins as stands}
use Rattle.ledger_io.proofs.Written.{made-ahead, fewer}
use Rattle.ledger_io.proofs.Text.{SoFar, begins, goes-on, ends}
use Rattle.ledger_io.proofs.run.Goals as goal

pub loop-turn-init : goal.loop-turn-init
loop-turn-init g c =
    let from = g.R.Read.remaining c.args.from.now in
    let e = ap (λ (t : LedgerTurn). t.wanted) c.start-turn.ensures in (
      search rules,
      omega arith,
      subst Standing (sym c.start-turn.ensures) stands,
      subst (λ (t : LedgerTurn). IfSome from (λ s. SoFar c.args.edition s from t)) (sym c.start-turn.ensures) (begins c.args.edition from),
    )

pub loop-turn-smaller : goal.loop-turn-smaller
loop-turn-smaller g c = fewer c.loop-turn-test.true (made-ahead c.in_ok-turn.ensures.made c.loop-turn.invariant.2 c.loop-turn-test.true)

pub loop-turn-preserved : goal.loop-turn-preserved
loop-turn-preserved g c =
    let ahead = made-ahead c.in_ok-turn.ensures.made c.loop-turn.invariant.2 c.loop-turn-test.true in (
      search rules,
      ahead.size,
      ahead.standing,
      goes-on c.args.edition _ _ _ _ _ c.loop-turn.invariant.3 c.loop-turn-test.true c.in_ok-turn.ensures.follows,
    )

pub returns : goal.returns
returns g c = ends c.args.edition _ _ _ _ _ _ c.loop-turn.invariant.3 c.loop-turn-test.false c.write_report.ensures
