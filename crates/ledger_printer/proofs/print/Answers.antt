-- `ledger_printer::print` meets its contract. Assumes nothing.
use mathlib.Core.Path.{sym, ◌∙◌}
use native.Mathlib.Omega.{arith}
use Rattle.ledger_printer.proofs.Printed.{answer-impossible, answer-other-size, answer-printed}
use Rattle.ledger_printer.proofs.print.Goals as goal

pub returns-then-not-possible : goal.returns-then-not-possible
returns-then-not-possible c =
    let a = c.args in
    let both = answer-impossible a.ledger a.text.now (sym c.possible.ensures ∙ c.if-not-possible.true) in
    record { number = both.0; text = both.1 }

pub returns-then-text-lines_length : goal.returns-then-text-lines_length
returns-then-text-lines_length c =
    let a = c.args in
    let both = answer-other-size a.ledger a.text.now c.numbers_of-numbers.result c.lines_length.result
    (sym c.possible.ensures ∙ c.if-not-possible.false) c.numbers_of-numbers.ensures c.lines_length.ensures (λ e. omega arith) in
    record { number = both.0; text = both.1 }

pub put_lines-requires : goal.put_lines-requires
put_lines-requires c = omega arith

pub returns : goal.returns
returns c =
    let a = c.args in
    let both = answer-printed a.ledger a.text.now c.numbers_of-numbers.result c.lines_length.result
    (sym c.possible.ensures ∙ c.if-not-possible.false) c.numbers_of-numbers.ensures c.lines_length.ensures
    c.put_lines.new.out (omega (arith, c.if-text-lines_length.false)) c.put_lines.ensures in
    record { number = both.0; text = both.1 }
