use Rattle.std.proofs.Common.{◌∙◌, ◌^◌, ltb, ne_eqb, sym, arith, rules, tests}
use Rattle.std.proofs.lemmas.Iterator.{YieldsList-from_slice, YieldsList-from_zip}
use Rattle.std.proofs.lemmas.Iterator.Search.{all_from_yields_List}
use Rattle.bits.proofs.Layouts.{fitb-length, fitb-all}
use Rattle.bit_layouts.proofs.fits_all.Goals as goal

-- `bit_layouts::fits_all` meets its contract. Assumes nothing.
pub returns-then-vs-ws : goal.returns-then-vs-ws
returns-then-vs-ws c =
    let ws = c.args.ws.now in
    let vs = c.args.vs.now in
    all_from_yields_List (λ p. ltb p.1 (2 ^ p.0)) c.all.new.self c.all.new.f c.all.result c.all.ensures.ran (YieldsList-from_zip (YieldsList-from_slice ws cc) (YieldsList-from_slice vs cc)) (λ x b q k. search (rules, tests))
    ∙ sym (fitb-all ws vs (omega (arith, c.if-vs-ws.true)))

pub returns-else-vs-ws : goal.returns-else-vs-ws
returns-else-vs-ws c =
    ne_eqb _ _ c.if-vs-ws.false ∙ sym (fitb-length c.args.ws.now c.args.vs.now c.if-vs-ws.false)
