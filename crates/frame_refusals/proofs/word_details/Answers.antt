-- `frame_refusals::word_details` meets its contract. Assumes nothing.
use Rattle.frame_refusals.proofs.Tests.{details-in}
use Rattle.frame_refusals.proofs.word_details.Goals as goal

pub returns : goal.returns
returns c =
    details-in c.args.edition c.args.word.now c.requires c.args.reference c.args.pattern c.get-identification.result c.get-update.result c.word_body-body.result c.read_details.result
    c.word_body-body.ensures c.get-identification.ensures c.get-update.ensures c.read_details.ensures
