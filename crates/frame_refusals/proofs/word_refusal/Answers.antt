-- `frame_refusals::word_refusal` meets its contract. Assumes nothing.
use Rattle.frame_refusals.proofs.Tests.{crc-refused, undefined-refused, flags-refused, fixed-refused, limit-refused, none-refused}
use Rattle.frame_refusals.proofs.word_refusal.Goals as goal

pub returns-then-crc_differs : goal.returns-then-crc_differs
returns-then-crc_differs c =
    crc-refused c.args.edition c.args.word.now c.requires.0 c.args.details c.requires.1 c.crc_differs.result c.crc_differs.ensures c.if-crc_differs.true

pub returns-then-is_undefined : goal.returns-then-is_undefined
returns-then-is_undefined c =
    undefined-refused c.args.edition c.args.word.now c.requires.0 c.args.details c.requires.1 c.crc_differs.result c.crc_differs.ensures c.if-crc_differs.false
    c.get.result c.class_of-class.result c.is_undefined.result c.get.ensures c.class_of-class.ensures c.is_undefined.ensures c.if-is_undefined.true

pub returns-then-flags_wrong : goal.returns-then-flags_wrong
returns-then-flags_wrong c =
    flags-refused c.args.edition c.args.word.now c.requires.0 c.args.details c.requires.1 c.crc_differs.result c.crc_differs.ensures c.if-crc_differs.false
    c.get.result c.class_of-class.result c.is_undefined.result c.get.ensures c.class_of-class.ensures c.is_undefined.ensures c.if-is_undefined.false
    c.get-start.result c.get-update.result c.flags_wrong.result c.get-start.ensures c.get-update.ensures c.flags_wrong.ensures c.if-flags_wrong.true

pub returns-then-not-details : goal.returns-then-not-details
returns-then-not-details c =
    fixed-refused c.args.edition c.args.word.now c.requires.0 c.args.details c.requires.1 c.crc_differs.result c.crc_differs.ensures c.if-crc_differs.false
    c.get.result c.class_of-class.result c.is_undefined.result c.get.ensures c.class_of-class.ensures c.is_undefined.ensures c.if-is_undefined.false
    c.get-start.result c.get-update.result c.flags_wrong.result c.get-start.ensures c.get-update.ensures c.flags_wrong.ensures c.if-flags_wrong.false c.if-not-details.true

pub returns-then-over_limit : goal.returns-then-over_limit
returns-then-over_limit c =
    limit-refused c.args.edition c.args.word.now c.requires.0 c.args.details c.requires.1 c.crc_differs.result c.crc_differs.ensures c.if-crc_differs.false
    c.get.result c.class_of-class.result c.is_undefined.result c.get.ensures c.class_of-class.ensures c.is_undefined.ensures c.if-is_undefined.false
    c.get-start.result c.get-update.result c.flags_wrong.result c.get-start.ensures c.get-update.ensures c.flags_wrong.ensures c.if-flags_wrong.false c.if-not-details.false
    c.word_body.result c.over_limit.result c.word_body.ensures c.over_limit.ensures c.if-over_limit.true

pub returns : goal.returns
returns c =
    none-refused c.args.edition c.args.word.now c.requires.0 c.args.details c.requires.1 c.crc_differs.result c.crc_differs.ensures c.if-crc_differs.false
    c.get.result c.class_of-class.result c.is_undefined.result c.get.ensures c.class_of-class.ensures c.is_undefined.ensures c.if-is_undefined.false
    c.get-start.result c.get-update.result c.flags_wrong.result c.get-start.ensures c.get-update.ensures c.flags_wrong.ensures c.if-flags_wrong.false c.if-not-details.false
    c.word_body.result c.over_limit.result c.word_body.ensures c.over_limit.ensures c.if-over_limit.false
