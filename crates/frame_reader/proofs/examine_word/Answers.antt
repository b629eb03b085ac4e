-- `frame_reader::examine_word` meets its contract. Assumes nothing.
use mathlib.Core.Path.{refl, ◌∙◌}
use borrow.Author.Rules.{rules}
use Rattle.frame.specs.Fields.{record_from}
use Rattle.frame_refusals.proofs.Tests.{tells}
use Rattle.frame_reader.proofs.ReadingExamined.{word-refused, word-accepted}
use Rattle.frame_reader.proofs.examine_word.Goals as goal

pub word_refusal-number-requires : goal.word_refusal-number-requires
word_refusal-number-requires c =
    let s = c.args in
    (search rules, tells s.edition s.word c.word_details-details.result s.reference s.pattern c.word_details-details.ensures)

pub returns-then-number-ne0 : goal.returns-then-number-ne0
returns-then-number-ne0 c =
    let s = c.args in
    c.refused.ensures ∙ word-refused s.edition s.origin s.reference s.pattern s.differing s.word c.word_refusal-number.result c.word_refusal-number.ensures c.if-number-ne0.true

pub returns : goal.returns
unfolding record_from
returns c =
    let s = c.args in
    word-accepted s.edition s.origin s.reference s.pattern s.differing s.word c.word_refusal-number.result c.word_refusal-number.ensures c.word_details-details.result _ c.word_details-details.ensures c.if-number-ne0.false refl
