-- `dsc_bytes::word_bytes` meets its contract. Assumes nothing.
use mathlib.Core.Path.{sym, ◌∙◌}
use native.Mathlib.Omega.{arith}
use Rattle.dsc.specs.Repair.{word_bytes}
use Rattle.dsc_bytes.specs.Padded.{padded}
use Rattle.dsc.proofs.Answers.{length-word_bytes}
use Rattle.dsc_bits.proofs.Octets.{bytes-at}
use Rattle.dsc_bits.proofs.Steps.{filled_next, filled-list}
use Rattle.dsc_bytes.proofs.word_bytes.Goals as goal

pub loop-j-preserved : goal.loop-j-preserved
unfolding word_bytes
loop-j-preserved c =
    let w = c.args.w.now in
    filled_next c.loop-j.invariant (omega arith) (c.octet.ensures ∙ sym (bytes-at 26 (padded w) c.loop-j.j (omega arith)))

pub returns : goal.returns
returns c =
    let w = c.args.w.now in
    filled-list (word_bytes w) c.loop-j.invariant (omega arith) (length-word_bytes w)
