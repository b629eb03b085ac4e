use Rattle.std.proofs.Common.{rules, ◌-◌, ◌∙◌, arith, subst}
use Rattle.std.specs.Io.KnownBytes.{Consumes}
use Rattle.std.proofs.KnownBytes.{Consumes-trans}
use Rattle.input_io.proofs.Parts.{part-read, rest-kept}
use Rattle.input_io.proofs.read.Goals as goal

pub loop-done-preserved : goal.loop-done-preserved
loop-done-preserved g c =
    let from = c.loop-done.done in
    let joined = part-read from (c.args.wanted - from) c.in_ok-got.got c.loop-done.input c.read.new.buf (omega arith) c.in_ok-got.ensures.bound.0 in
    (search rules, search rules, subst (Consumes _ _) joined (Consumes-trans _ _ _ _ _ c.loop-done.invariant.2 c.in_ok-got.ensures.bytes.0), (rest-kept from (c.args.wanted - from) c.args.wanted c.loop-done.input c.read.new.buf (omega arith) (omega arith) (omega arith) ∙ c.loop-done.invariant.3))

-- where the input has ended, and where a read fails, the bytes behind the wanted ones have stayed too
pub returns-in_err-got-clause-rest : goal.returns-in_err-got-clause-rest
returns-in_err-got-clause-rest g c =
    let from = c.loop-done.done in
    rest-kept from (c.args.wanted - from) c.args.wanted c.loop-done.input c.read.new.buf (omega arith) (omega arith) (omega arith) ∙ c.loop-done.invariant.3

pub returns-then-got-eq0-clause-rest : goal.returns-then-got-eq0-clause-rest
returns-then-got-eq0-clause-rest g c =
    let from = c.loop-done.done in
    rest-kept from (c.args.wanted - from) c.args.wanted c.loop-done.input c.read.new.buf (omega arith) (omega arith) (omega arith) ∙ c.loop-done.invariant.3
