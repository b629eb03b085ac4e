-- `frame_refusals::word_body` meets its contract. Assumes nothing.
use mathlib.Core.Path.{◌∙◌}
use Rattle.frame_refusals.proofs.Tests.{body-in}
use Rattle.frame_refusals.proofs.word_body.Goals as goal

pub returns : goal.returns
returns c =
    c.body_of.ensures ∙ body-in c.args.edition c.args.word.now c.requires c.get.result c.get-page.result c.get-kind.result c.class_of-announced.result c.get.ensures c.class_of-announced.ensures c.get-page.ensures c.get-kind.ensures
