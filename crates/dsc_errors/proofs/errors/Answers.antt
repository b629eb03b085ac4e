-- `dsc_errors::errors` meets its contract: each way out by the majorities that are known by then. Assumes nothing.
use native.Mathlib.Omega.{arith}
use borrow.Author.Rules.{rules}
use Rattle.dsc_words.proofs.Words.{weight-word_of}
use Rattle.dsc_errors.proofs.ErrorPlaces.{cut_fits, many-low, many-middle, many-high, error-word}
use Rattle.dsc_errors.proofs.errors.Goals as goal

pub returns-then-first-gt-MOST : goal.returns-then-first-gt-MOST
returns-then-first-gt-MOST c =
    many-low c.wrap-fourth.ensures c.majority-low.ensures (search rules) (omega arith)

pub returns-then-second-gt-MOST : goal.returns-then-second-gt-MOST
returns-then-second-gt-MOST c =
    many-middle c.wrap-fourth.ensures c.majority-low.ensures (search rules) c.wrap-fifth.ensures c.majority-next.ensures (search rules)
    (omega arith)

pub returns-then-places-gt-MOST : goal.returns-then-places-gt-MOST
returns-then-places-gt-MOST c =
    many-high c.wrap-fourth.ensures c.majority-low.ensures (search rules) c.wrap-fifth.ensures c.majority-next.ensures (search rules) c.wrap-sixth.ensures c.majority-last.ensures
    (omega arith)

pub invariant_of-result : goal.invariant_of-result
invariant_of-result c = record { fits = cut_fits c.majority-last.result }

pub invariant_of-result-2-clause-counted : goal.invariant_of-result-2-clause-counted
invariant_of-result-2-clause-counted c =
    omega (arith, weight-word_of c.majority-low.result c.majority-next.result _ (search rules) (search rules) (cut_fits c.majority-last.result))

pub returns : goal.returns
returns c =
    error-word c.wrap-fourth.ensures c.majority-low.ensures (search rules) c.wrap-fifth.ensures c.majority-next.ensures (search rules) c.wrap-sixth.ensures c.majority-last.ensures
