-- `header_reader::refusal` meets its contract. Assumes nothing.
use Rattle.header_reader.proofs.HeaderRefusals.{short-refused}
use Rattle.header_reader.proofs.refusal.Goals as goal

pub returns-then-h-ne188 : goal.returns-then-h-ne188
returns-then-h-ne188 c = short-refused c.args.h.now c.if-h-ne188.true
