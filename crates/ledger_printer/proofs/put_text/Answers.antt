-- `ledger_printer::put_text` meets its contract. Assumes nothing.
use mathlib.Core.Path.{refl}
use native.Mathlib.Omega.{arith}
use lib.Seq.{take_all}
use borrow.Author.Rules.{rules}
use Rattle.ledger_printer.proofs.Printed.{stored_text}
use Rattle.ledger_printer.proofs.put_text.Goals as goal

pub returns : goal.returns
returns c =
    let a = c.args in
    record { place = refl; text = stored_text a.out.now a.text.now _ a.at _ (omega arith) (search (rules, take_all)) (omega arith) }
