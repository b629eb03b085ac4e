-- `header_writer::write` meets its contract. Assumes nothing.
use mathlib.Core.Path.{◌∙◌, sym, refl}
use mathlib.Core.List.{◌++◌}
use Prim.Native.Nat.{◌-◌}
use native.Mathlib.Omega.{arith}
use lib.ListN.{length, take, drop}
use Rattle.bits.specs.Bits.{bytes}
use Rattle.bits.specs.Segment.{pack_segments}
use Rattle.bits.proofs.Slices.{rest-lent}
use Rattle.header.specs.Layout.{extension_layout}
use Rattle.header.specs.Fields.{extension_fields}
use Rattle.header_writer.proofs.Writing.{short-number, record-number, buffer-kept, buffer-written, header-written}
use Rattle.header_writer.proofs.write.Goals as goal

pub returns-then-buffer-ne188 : goal.returns-then-buffer-ne188
returns-then-buffer-ne188 c =
    let a = c.args in
    let s = a.buffer.now in
    let n = short-number a.header (length s) c.if-buffer-ne188.true in
    record { number = n; buffer = buffer-kept a.header s 1 n (λ z. omega arith) }

pub returns-then-number-ne0 : goal.returns-then-number-ne0
returns-then-number-ne0 c =
    let a = c.args in
    let s = a.buffer.now in
    let n = record-number a.header (length s) c.record_refusal-number.result c.if-buffer-ne188.false c.record_refusal-number.ensures in
    record { number = n; buffer = buffer-kept a.header s c.record_refusal-number.result n c.if-number-ne0.true }

pub returns : goal.returns
returns c =
    let a = c.args in
    let s = a.buffer.now in
    let z = c.if-number-ne0.false in
    let n = record-number a.header (length s) c.record_refusal-number.result c.if-buffer-ne188.false c.record_refusal-number.ensures in
    let v₁ = c.put_front.new.buffer in
    let v₂ = take 99 v₁ ++ (c.put_extension.new.part ++ drop (length v₁ - 99) (drop 99 v₁)) in
    let q = bytes 85 (pack_segments extension_layout (extension_fields a.header.extension)) in
    let e = rest-lent (λ x. q ++ drop 85 x) v₁ v₂ c.put_extension.new.part 99 c.put_extension.ensures refl in
    record { number = sym z ∙ n; buffer = buffer-written a.header s c.seal.new.header c.record_refusal-number.result n z (header-written a.header s v₁ v₂ c.seal.new.header c.put_front.ensures e c.seal.ensures) }
