-- `frame_legality::record_refusal` meets its contract. Assumes nothing.
use mathlib.Core.Path.{◌≡◌, sym, ap, ◌∙◌}
use mathlib.Core.Bool.{Bool}
use Rattle.bits.proofs.Refusal.{tested, met, unmet, end}
use Rattle.frame.specs.Identification.{class_of, is_undefined}
use Rattle.frame.specs.Fields.{record_body, over_limit}
use Rattle.frame.specs.Write.{record_refusal}
use Rattle.frame.specs.declared.Edition.{Edition}
use Rattle.frame.specs.declared.Body.{Body}
use Rattle.frame.specs.declared.Class.{Class}
use Rattle.frame.specs.declared.Record.{Record}
use Rattle.frame_legality.proofs.record_refusal.Goals as goal

-- `frame_legality::record_refusal` meets its contract. Assumes nothing.
-- the tests as the code has them: what a call answered, and what was found of it
undefined : (ed : Edition) (r : Record) {k : Class} {t b : Bool} → k ≡ class_of ed r.identification → t ≡ is_undefined k → t ≡ b → is_undefined (class_of ed r.identification) ≡ b
undefined ed r ek et eb = sym (et ∙ ap is_undefined ek) ∙ eb

limit : (ed : Edition) (r : Record) {y : Body} {t b : Bool} → y ≡ record_body ed r → t ≡ over_limit y r.latitude r.longitude → t ≡ b
    → over_limit (record_body ed r) r.latitude r.longitude ≡ b
limit ed r ey et eb = sym (et ∙ ap (λ (k : Body). over_limit k r.latitude r.longitude) ey) ∙ eb

pub returns-then-is_undefined : goal.returns-then-is_undefined
unfolding record_refusal
returns-then-is_undefined c = tested (met (undefined c.args.edition c.args.contents c.class_of.ensures c.is_undefined.ensures c.if-is_undefined.true))

pub returns-then-too_wide : goal.returns-then-too_wide
unfolding record_refusal
returns-then-too_wide c =
    tested
    (unmet (undefined c.args.edition c.args.contents c.class_of.ensures c.is_undefined.ensures c.if-is_undefined.false)
    (met (sym c.too_wide.ensures ∙ c.if-too_wide.true)))

pub returns-then-over_limit : goal.returns-then-over_limit
unfolding record_refusal
returns-then-over_limit c =
    tested
    (unmet (undefined c.args.edition c.args.contents c.class_of.ensures c.is_undefined.ensures c.if-is_undefined.false)
    (unmet (sym c.too_wide.ensures ∙ c.if-too_wide.false)
    (met (limit c.args.edition c.args.contents c.record_body.ensures c.over_limit.ensures c.if-over_limit.true))))

pub returns : goal.returns
unfolding record_refusal
returns c =
    tested
    (unmet (undefined c.args.edition c.args.contents c.class_of.ensures c.is_undefined.ensures c.if-is_undefined.false)
    (unmet (sym c.too_wide.ensures ∙ c.if-too_wide.false)
    (unmet (limit c.args.edition c.args.contents c.record_body.ensures c.over_limit.ensures c.if-over_limit.false) end)))
