-- `capture::number` meets its contract. Assumes nothing.
use mathlib.Core.Path.{sym, ap, ◌∙◌}
use native.Mathlib.Omega.{arith}
use Rattle.frame.specs.Read.{frame_refusal, judge_by}
use Rattle.frame.specs.declared.Verdict.{Verdict}
use Rattle.capture.proofs.Choice.{number-within, number_past}
use Rattle.capture.proofs.number.Goals as goal

pub returns-then-n-capture : goal.returns-then-n-capture
unfolding judge_by
returns-then-n-capture c =
    let s = c.args in
    ap (λ (v : Verdict). v.number) c.judge.ensures
    ∙ ap (frame_refusal s.edition) c.part.ensures.bytes
    ∙ sym (number-within s.edition s.capture.now s.n (omega arith))

pub returns : goal.returns
returns c =
    let s = c.args in
    sym (number_past s.edition s.capture.now s.n (omega arith))
