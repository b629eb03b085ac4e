-- `header_legality::record_refusal` meets its contract. Assumes nothing.
use mathlib.Core.Path.{◌≡◌, ◌∙◌, sym}
use mathlib.Core.Bool.{true, false}
use Rattle.gf2.specs.Polynomial.{member}
use Rattle.header_legality.proofs.RecordRefusals.{wide-refused, packet-sync-refused, form-refused, state-refused, none-refused}
use Rattle.header_legality.proofs.record_refusal.Goals as goal

pub returns-then-too_wide : goal.returns-then-too_wide
returns-then-too_wide c = wide-refused c.args.header (sym c.too_wide.ensures ∙ c.if-too_wide.true)

pub returns-then-front-ne71 : goal.returns-then-front-ne71
returns-then-front-ne71 c = packet-sync-refused c.args.header (sym c.too_wide.ensures ∙ c.if-too_wide.false) c.if-front-ne71.true

pub returns-then-front-ne1 : goal.returns-then-front-ne1
returns-then-front-ne1 c = form-refused c.args.header (sym c.too_wide.ensures ∙ c.if-too_wide.false) c.if-front-ne71.false c.if-front-ne1.true

pub returns-then-has : goal.returns-then-has
returns-then-has c =
    let w = sym c.too_wide.ensures ∙ c.if-too_wide.false in
    let r = c.args.header in
    let e : member 3 r.front.states ≡ true = sym c.has.ensures ∙ c.if-has.true in
    state-refused r w c.if-front-ne71.false c.if-front-ne1.false e

pub returns : goal.returns
returns c =
    let w = sym c.too_wide.ensures ∙ c.if-too_wide.false in
    let r = c.args.header in
    let e : member 3 r.front.states ≡ false = sym c.has.ensures ∙ c.if-has.false in
    none-refused r w c.if-front-ne71.false c.if-front-ne1.false e
