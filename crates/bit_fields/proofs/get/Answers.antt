use mathlib.Core.Path.{◌∙◌, ap, sym}
use mathlib.Core.Bool.{Bool, cond}
use lib.ListN.{length}
use Rattle.bits.specs.Field.{field_at}
use Rattle.bits.proofs.Field.{within-true}
use Rattle.bit_fields.proofs.get.Goals as goal

pub read_field-requires : goal.read_field-requires
read_field-requires c =
    let a = c.args in
    within-true (length a.s.now) a.at a.width (sym c.inside.ensures ∙ c.if-inside.true)

pub returns-then-inside : goal.returns-then-inside
returns-then-inside c =
    let a = c.args in
    c.read_field.ensures
    ∙ ap (λ (t : Bool). cond t (field_at a.s.now a.at a.width) 0) (sym c.if-inside.true ∙ c.inside.ensures)

pub returns-else-inside : goal.returns-else-inside
returns-else-inside c =
    let a = c.args in
    ap (λ (t : Bool). cond t (field_at a.s.now a.at a.width) 0) (sym c.if-inside.false ∙ c.inside.ensures)
