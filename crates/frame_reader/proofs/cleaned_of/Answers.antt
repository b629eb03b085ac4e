-- `frame_reader::cleaned_of` meets its contract. Assumes nothing.
use Rattle.frame_reader.proofs.ReadingCleaned.{none-cleaned, put-cleaned}
use Rattle.frame_reader.proofs.cleaned_of.Goals as goal

pub returns-in-Accepted : goal.returns-in-Accepted
returns-in-Accepted c =
    put-cleaned c.args.examined c.in-Accepted.contents c.in-Accepted.field-1 c.put.new.s c.put-in-Accepted.new.s c.pattern_word.result c.in-Accepted.is c.put.ensures c.pattern_word.ensures c.put-in-Accepted.ensures

pub returns-in-Refused : goal.returns-in-Refused
returns-in-Refused c =
    none-cleaned c.args.examined c.in-Refused.number c.in-Refused.is
