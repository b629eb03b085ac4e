-- `abi_repair::put_answer` meets its contract: the word takes the whole of the buffer. Assumes nothing.
use mathlib.Core.Path.{◌∙◌, ap₂, sym}
use mathlib.Core.List.{◌++◌, append-nil}
use native.Mathlib.Omega.{arith}
use lib.ListN.{length, drop_of_length-le}
use lib.Seq.{take_all}
use Rattle.abi_repair.proofs.RepairCases.{left-repaired}
use Rattle.abi_repair.proofs.put_answer.Goals as goal

pub returns-in-Repaired : goal.returns-in-Repaired
returns-in-Repaired c =
    let repaired = c.args.answer.word in
    left-repaired c.args.answer c.args.word.now c.requires c.in-Repaired.is
    (c.copy_from_slice.ensures.after
    ∙ sym
    (ap₂ (λ x y. x ++ y) (take_all (length repaired) repaired (omega arith))
    (drop_of_length-le c.args.word.now {i = length repaired} (omega (arith, c.requires)))
    ∙ append-nil repaired))
