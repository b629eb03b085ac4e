-- `frame_refusals::preamble_of` meets its contract. Assumes nothing.
use Rattle.frame_refusals.proofs.Tests.{preamble-short, preamble-filler, preamble-neither, preamble-fits}
use Rattle.frame_refusals.proofs.preamble_of.Goals as goal

pub returns-then-frame-ne26 : goal.returns-then-frame-ne26
returns-then-frame-ne26 c = preamble-short c.args.frame.now c.if-frame-ne26.true

pub returns-then-filler-ne0 : goal.returns-then-filler-ne0
returns-then-filler-ne0 c = preamble-filler c.args.frame.now c.if-frame-ne26.false c.get-filler.result c.get-filler.ensures c.if-filler-ne0.true

pub returns : goal.returns
returns c =
    preamble-fits c.args.frame.now c.if-frame-ne26.false c.get-filler.result c.get-filler.ensures c.if-filler-ne0.false
    c.get.result c.get.ensures c.sync_of.result c.sync_of.ensures
    c.get-reference.result c.in-Some.fit.pattern c.in-Some.fit.differing c.get-reference.ensures c.in-Some.is

pub returns-in_default : goal.returns-in_default
returns-in_default c =
    preamble-neither c.args.frame.now c.if-frame-ne26.false c.get-filler.result c.get-filler.ensures c.if-filler-ne0.false
    c.get.result c.get.ensures c.sync_of.result c.sync_of.ensures c.in_default.is
