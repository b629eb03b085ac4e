-- `abi_marked_frame::frame_read_marked` meets its contract. Assumes nothing.
use mathlib.Core.Path.{◌≡◌, refl, ap₂, ◌∙◌}
use Rattle.dsc.specs.Marks.{marked}
use Rattle.frame.specs.declared.Edition.{Edition}
use Rattle.frame.specs.declared.Tuner.{Tuner}
use Rattle.frame.specs.Read.{read_by}
use Rattle.abi_edition.specs.Edition.{edition_of}
use Rattle.abi_tuner.specs.Tuner.{tuner_of}
use Rattle.abi_frame.proofs.Cases.{read-wrong, read_told}
use Rattle.abi_marked_frame.proofs.frame_read_marked.Goals as goal

pub returns-then-values-ne-VALUES : goal.returns-then-values-ne-VALUES
returns-then-values-ne-VALUES c =
    let s = c.args in
    let both = read-wrong _ (marked s.marks.now) _ _ _ c.if-values-ne-VALUES.true c.status.ensures refl in
    record { status = both.0; values = both.1 }

pub returns : goal.returns
returns c =
    let s = c.args in
    let named : c.edition_of.result ≡ edition_of s.edition = c.edition_of.ensures in
    let told : c.tuner_of-told.result ≡ tuner_of s.tuner = c.tuner_of-told.ensures in
    let q = marked s.marks.now in
    let read : c.read_marked-reading.result ≡ read_by c.edition_of.result q c.tuner_of-told.result s.frame.now =
    c.read_marked-reading.ensures in
    let both = read_told _ q _ _ _ c.if-values-ne-VALUES.false
    (read ∙ ap₂ (λ (e : Edition) (t : Tuner). read_by e q t s.frame.now) named told) (c.put_reading.ensures.status, c.put_reading.ensures.values) in
    record { status = both.0; values = both.1 }
