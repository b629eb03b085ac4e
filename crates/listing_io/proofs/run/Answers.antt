use Rattle.std.proofs.Common.{rules, arith, sym, ap, subst, IfSome, ⊎_elim}
use Rattle.listing_turns.proofs.Ahead.{told-ahead}
use Rattle.listing_turns.specs.declared.Turn.{Turn}
use Rattle.listing_io.proofs.Text.{SoFar, begins, goes-on, ends}
use Rattle.listing_io.proofs.run.Goals as goal

pub loop-turn-init : goal.loop-turn-init
loop-turn-init g c =
    let from = g.R.Read.remaining c.args.from.now in
    let to = g.W.Write.contents c.args.to.now in
    let out = c.text_buffer-out.result in
    let first = begins c.args.edition c.args.pieces from to out (omega arith) in
    let e = ap (λ (t : Turn). t.wanted) c.start-turn.ensures in (
      search rules,
      search rules,
      omega arith,
      subst (λ (t : Turn). IfSome from (λ s. SoFar c.args.edition c.args.pieces s from to to t out)) (sym c.start-turn.ensures) first,
    )

pub loop-turn-smaller : goal.loop-turn-smaller
loop-turn-smaller g c =
    let ahead = told-ahead _ _ _ _ _ c.in_ok-turn.ensures.made.told in
    ⊎_elim (λ z. omega arith) (λ w. omega arith) ahead.more

pub loop-turn-preserved : goal.loop-turn-preserved
loop-turn-preserved g c =
    let ahead = told-ahead _ _ _ _ _ c.in_ok-turn.ensures.made.told in (
      search rules,
      search rules,
      ahead.size,
      goes-on c.args.edition c.args.pieces _ _ _ _ _ _ _ _ _ _ c.loop-turn.invariant.3 c.loop-turn-test.true c.in_ok-turn.ensures.follows c.in_ok-turn.ensures.text,
    )

pub returns : goal.returns
returns g c = ends c.args.edition c.args.pieces _ _ _ _ _ _ c.loop-turn.invariant.3 c.loop-turn-test.false
