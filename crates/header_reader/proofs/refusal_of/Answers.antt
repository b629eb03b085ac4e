-- `header_reader::refusal_of` meets its contract. Assumes nothing.
use mathlib.Core.Path.{◌≡◌, ◌∙◌, sym}
use lib.ListN.{length}
use Rattle.header_reader.proofs.HeaderRefusals.{packet-sync-refused, crc-refused, form-refused, slot-bit-refused, state-refused, extension-refused, none-refused}
use borrow.Author.Rules.{rules}
use Rattle.header_reader.proofs.refusal_of.Goals as goal
use Rattle.header_reader.proofs.refusal_of.Goals.{Start}

states-long : (c : Start) → length c.args.front.front.states ≡ 15
states-long c = search rules

pub returns-then-found-ne71 : goal.returns-then-found-ne71
returns-then-found-ne71 c =
    let h = c.args.h.now in
    let p = c.requires in
    packet-sync-refused h p.0 c.args.front p.1 c.if-found-ne71.true

pub returns-then-crc_wrong : goal.returns-then-crc_wrong
returns-then-crc_wrong c =
    let h = c.args.h.now in
    let p = c.requires in
    crc-refused h p.0 c.args.front p.1 c.if-found-ne71.false (sym c.crc_wrong.ensures ∙ c.if-crc_wrong.true)

pub returns-then-found-ne1 : goal.returns-then-found-ne1
returns-then-found-ne1 c =
    let h = c.args.h.now in
    let p = c.requires in
    form-refused h p.0 c.args.front p.1 c.if-found-ne71.false (sym c.crc_wrong.ensures ∙ c.if-crc_wrong.false) c.if-found-ne1.true

pub returns-then-not-front : goal.returns-then-not-front
returns-then-not-front c =
    let h = c.args.h.now in
    let p = c.requires in
    slot-bit-refused h p.0 c.args.front p.1 c.if-found-ne71.false (sym c.crc_wrong.ensures ∙ c.if-crc_wrong.false) c.if-found-ne1.false c.if-not-front.true

pub slice_bounds-has-end : goal.slice_bounds-has-end
slice_bounds-has-end c = sym (states-long (goal.at.slice_bounds-has-end c).Start)

pub returns-then-has : goal.returns-then-has
returns-then-has c =
    let h = c.args.h.now in
    let p = c.requires in
    state-refused h p.0 c.args.front p.1 c.if-found-ne71.false (sym c.crc_wrong.ensures ∙ c.if-crc_wrong.false) c.if-found-ne1.false (sym c.has.ensures ∙ c.if-has.true)

pub returns-then-not-extension : goal.returns-then-not-extension
returns-then-not-extension c =
    let h = c.args.h.now in
    let p = c.requires in
    extension-refused h p.0 c.args.front p.1 c.if-found-ne71.false (sym c.crc_wrong.ensures ∙ c.if-crc_wrong.false) c.if-found-ne1.false c.args.extension p.2 c.if-not-extension.true

pub returns : goal.returns
returns c =
    let h = c.args.h.now in
    let p = c.requires in
    none-refused h p.0 c.args.front p.1 c.if-found-ne71.false (sym c.crc_wrong.ensures ∙ c.if-crc_wrong.false) c.if-found-ne1.false c.args.extension p.2 c.if-not-front.false (sym c.has.ensures ∙ c.if-has.false) c.if-not-extension.false
