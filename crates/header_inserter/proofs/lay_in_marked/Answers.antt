-- `header_inserter::lay_in_marked` meets its contract. Assumes nothing.
use Rattle.dsc.specs.Marks.{marked}
use Rattle.header_inserter.proofs.Cases.{accepted-size, header_refused, laid}
use Rattle.header_inserter.proofs.lay_in_marked.Goals as goal

pub returns-then-number-ne0 : goal.returns-then-number-ne0
returns-then-number-ne0 c =
    let s = c.args in
    let both = header_refused s.edition (marked s.marks.now) _ s.frame.now _ c.refusal-number.ensures c.if-number-ne0.true in
    record { number = both.0; header = both.1 }

pub lay_cleaned-requires : goal.lay_cleaned-requires
lay_cleaned-requires c = accepted-size _ _ c.refusal-number.ensures c.if-number-ne0.false

pub returns : goal.returns
returns c =
    let s = c.args in
    let both = laid s.edition (marked s.marks.now) _ s.frame.now _ c.clean_marked.result _ _ c.refusal-number.ensures c.if-number-ne0.false
    c.clean_marked.ensures (c.lay_cleaned.ensures.number, c.lay_cleaned.ensures.header) in
    record { number = both.0; header = both.1 }
