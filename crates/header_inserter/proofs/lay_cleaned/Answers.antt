-- `header_inserter::lay_cleaned` meets its contract. Assumes nothing.
use native.Mathlib.Omega.{arith}
use borrow.Author.Rules.{rules}
use Rattle.header_inserter.proofs.Cases.{cleaned-refused, cleaned-laid}
use Rattle.header_inserter.proofs.lay_cleaned.Goals as goal

pub returns-then-cleaned-ne0 : goal.returns-then-cleaned-ne0
returns-then-cleaned-ne0 c =
    let both = cleaned-refused _ c.args.cleaned (λ e. omega (arith, e)) in
    record { number = both.0; header = both.1 }

pub returns : goal.returns
returns c =
    let both = cleaned-laid _ c.args.cleaned _ _ (search rules) (omega arith) c.ac_values-values.ensures c.put_into.ensures in
    record { number = both.0; header = both.1 }
