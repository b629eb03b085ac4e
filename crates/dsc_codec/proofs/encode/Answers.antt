-- `dsc_codec::encode` meets its contract. Assumes nothing.
use mathlib.Core.Path.{ap, ◌∙◌}
use lib.ListN.{take}
use Rattle.bits.specs.Field.{put_of}
use Rattle.dsc.specs.Code.{parity_of}
use Rattle.dsc.specs.Encoding.{message_of}
use Rattle.dsc.proofs.Encoding.{encode-short, put-halves}
use Rattle.dsc_codec.proofs.encode.Goals as goal

pub returns-then-frame-ne26 : goal.returns-then-frame-ne26
returns-then-frame-ne26 c =
    let f = c.args.frame.now in
    encode-short f c.if-frame-ne26.true

pub returns : goal.returns
unfolding message_of
returns c =
    let f = c.args.frame.now in
    c.put-2.ensures
    ∙ ap (λ s. put_of s 163 41 c.number-low.result) c.put.ensures
    ∙ put-halves f c.if-frame-ne26.false c.parity-parity.result c.number-high.result c.number-low.result
    (c.parity-parity.ensures ∙ ap (λ w. parity_of (take 105 w)) c.received-word.ensures) c.number-high.ensures c.number-low.ensures
