-- `dsc_codec::repair` meets its contract: demand 3. Assumes nothing.
use Rattle.dsc_codec.proofs.Verdict.{whole-answer}
use Rattle.dsc_codec.proofs.repair.Goals as goal

pub returns : goal.returns
returns c = whole-answer c.args.frame.now c.repair_into-outcome.ensures.value c.repair_into-outcome.ensures.word_after
