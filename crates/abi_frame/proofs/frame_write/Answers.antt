-- `abi_frame::frame_write` meets its contract. Assumes nothing.
use mathlib.Core.Path.{refl, ap, ◌∙◌}
use lib.ListN.{length}
use Rattle.abi_record.specs.Values.{value_count, record_at}
use Rattle.frame.specs.Write.{write_number, write_of}
use Rattle.frame.specs.declared.Edition.{Edition}
use Rattle.abi_edition.specs.Edition.{edition_of}
use Rattle.abi.proofs.Writing.{Written, write-wrong, write-answered}
use Rattle.abi_frame.specs.Frame.{frame_write_status, frame_write_bytes}
use Rattle.abi_frame.proofs.frame_write.Goals as goal

-- `abi_frame::frame_write` meets its contract. Assumes nothing.
written : (ed : Edition) → Written value_count record_at (write_number ed) (write_of ed) (frame_write_status ed) (frame_write_bytes ed)
unfolding frame_write_status frame_write_bytes
written ed = record { is-status = λ v s. refl; is-buffer = λ v s. refl }

pub returns-then-values-ne-VALUES : goal.returns-then-values-ne-VALUES
returns-then-values-ne-VALUES c =
    let both = write-wrong (written _) _ _ c.if-values-ne-VALUES.true c.status.ensures refl in
    record { status = both.0; frame = both.1 }

pub returns : goal.returns
returns c =
    let named = c.edition_of.ensures in
    let s = c.args in
    let r = c.record_at.result in
    let b = s.frame.now in
    let both = write-answered (written (edition_of s.edition)) _ _ c.if-values-ne-VALUES.false c.record_at.ensures
    (c.write-written.ensures.value ∙ ap (λ (e : Edition). write_number e r (length b)) named) c.status-2.ensures
    (c.write-written.ensures.buffer_after ∙ ap (λ (e : Edition). write_of e r b) named) in
    record { status = both.0; frame = both.1 }
