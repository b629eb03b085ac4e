-- `capture_reader::read_at` meets its contract. Assumes nothing.
use mathlib.Core.Path.{◌≡◌, sym, ap, ◌∙◌}
use native.Mathlib.Omega.{arith}
use Rattle.frame.specs.Read.{read_of}
use Rattle.capture_reader.proofs.CaptureReads.{at-within, at-past}
use Rattle.capture_reader.proofs.read_at.Goals as goal

pub returns-then-n-capture : goal.returns-then-n-capture
returns-then-n-capture c =
    let s = c.args in
    let told : c.read.result ≡ read_of s.edition s.tuner c.part.result.now = c.read.ensures in
    told
    ∙ ap (read_of s.edition s.tuner) c.part.ensures.bytes
    ∙ sym (at-within s.edition s.tuner s.capture.now s.n (omega arith))

pub returns : goal.returns
returns c =
    let s = c.args in
    sym (at-past s.edition s.tuner s.capture.now s.n (omega arith))
