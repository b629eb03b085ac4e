use mathlib.Core.Path.{◌∙◌, ap, ap₂, sym}
use mathlib.Core.Bool.{Bool, cond}
use mathlib.Core.List.{List}
use Prim.Native.Nat.{ℕ}
use lib.ListN.{length}
use Rattle.bits.specs.Field.{put_bits}
use Rattle.bits.specs.Bits.{bytes}
use Rattle.bits.proofs.Field.{within-true}
use Rattle.bits.proofs.Bits.{bytes-bits}
use Rattle.bit_fields.proofs.put.Goals as goal

pub write_field-requires : goal.write_field-requires
write_field-requires c =
    let a = c.args in
    within-true (length a.s.now) a.at a.width (sym c.inside.ensures ∙ c.if-inside.true)

pub returns-then-inside : goal.returns-then-inside
returns-then-inside c =
    let a = c.args in
    let l = a.s.now in
    let e = c.write_field.new.s in
    sym (bytes-bits e (λ i. (c.type_inv.s i).fits))
    ∙ ap₂ (λ (n : ℕ) (b : List Bool). bytes n b) c.write_field.auto.s c.write_field.ensures
    ∙ ap (λ (t : Bool). cond t (bytes (length l) (put_bits l a.at a.width a.v)) l) (sym c.if-inside.true ∙ c.inside.ensures)

pub returns-else-inside : goal.returns-else-inside
returns-else-inside c =
    let a = c.args in
    let l = a.s.now in
    ap (λ (t : Bool). cond t (bytes (length l) (put_bits l a.at a.width a.v)) l) (sym c.if-inside.false ∙ c.inside.ensures)
