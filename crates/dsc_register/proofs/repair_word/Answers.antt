-- `dsc_register::repair_word` meets its contract: one law for each way out. Assumes nothing.
use mathlib.Core.Path.{◌≡◌, sym, ◌∙◌}
use mathlib.Core.Bool.{true, false}
use native.Mathlib.Omega.{arith}
use Rattle.dsc_register.proofs.Cases.{answer-not-word, answer-far, answer-near}
use Rattle.dsc_register.proofs.repair_word.Goals as goal

pub returns-then-not-is_code_word : goal.returns-then-not-is_code_word
returns-then-not-is_code_word c =
    let r = c.args.received.now in
    let no : c.is_code_word.result ≡ false = c.if-not-is_code_word.true in
    c.refused.ensures ∙ answer-not-word r c.decide_word-w.result c.decide_word-w.ensures (sym c.is_code_word.ensures ∙ no)

pub returns-then-places-gt8 : goal.returns-then-places-gt8
returns-then-places-gt8 c =
    let r = c.args.received.now in
    c.refused-then-places-gt8.ensures ∙ answer-far r c.decide_word-w.result c.decide_word-w.ensures c.distance-places.result c.distance-places.ensures (omega (arith, c.if-places-gt8.true))

pub returns : goal.returns
returns c =
    let r = c.args.received.now in
    let yes : c.is_code_word.result ≡ true = c.if-not-is_code_word.false in
    c.repaired.ensures
    ∙ answer-near r c.decide_word-w.result c.decide_word-w.ensures c.distance-places.result c.distance-places.ensures
    (sym c.is_code_word.ensures ∙ yes)
    (omega (arith, c.if-places-gt8.false))
