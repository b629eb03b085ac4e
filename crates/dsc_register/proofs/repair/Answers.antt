-- `dsc_register::repair` meets its contract: demand 3, by the register. Assumes nothing.
use mathlib.Core.Path.{ap, ◌∙◌}
use Rattle.dsc_shift_register.specs.Register.{register_answer}
use Rattle.dsc_register.proofs.Cases.{repair-short, repair-long, register-met}
use Rattle.dsc_register.proofs.repair.Goals as goal

pub returns-then-frame-ne26 : goal.returns-then-frame-ne26
returns-then-frame-ne26 c =
    let f = c.args.frame.now in
    let both = register-met f c.refused.result (c.refused.ensures ∙ repair-short f c.if-frame-ne26.true) in
    record { repairs = both.0; value = both.1 }

pub returns : goal.returns
returns c =
    let f = c.args.frame.now in
    let both =
    register-met f c.repair_word.result
    (c.repair_word.ensures ∙ ap register_answer c.received-received.ensures ∙ repair-long f c.if-frame-ne26.false) in
    record { repairs = both.0; value = both.1 }
