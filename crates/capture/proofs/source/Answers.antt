-- `capture::source` meets its contract. Assumes nothing.
use mathlib.Core.Path.{sym, ◌∙◌}
use Rattle.capture.proofs.Choice.{source-main, source-spare, source-none}
use Rattle.capture.proofs.source.Goals as goal

pub returns-then-number-eq0 : goal.returns-then-number-eq0
returns-then-number-eq0 c =
    let m = c.number.ensures in
    sym (source-main _ _ _ _ (sym m ∙ c.if-number-eq0.true))

pub returns-then-number-eq0-2 : goal.returns-then-number-eq0-2
returns-then-number-eq0-2 c =
    let m = c.number.ensures in
    let s = c.number-2.ensures in
    sym (source-spare _ _ _ _ (λ z. c.if-number-eq0.false (m ∙ z)) (sym s ∙ c.if-number-eq0-2.true))

pub returns : goal.returns
returns c =
    let m = c.number.ensures in
    let s = c.number-2.ensures in
    sym (source-none _ _ _ _ (λ z. c.if-number-eq0.false (m ∙ z)) (λ z. c.if-number-eq0-2.false (s ∙ z)))
