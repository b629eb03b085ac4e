-- `decimals::read_digits` meets its contract. Assumes nothing.
use Rattle.std.proofs.Common.{◌∙◌, arith}
use Rattle.decimals.proofs.Readings.{digits-one-more, digits-no-room, digits-before, digits-all}
use Rattle.decimals.proofs.read_digits.Goals as goal

pub returns-in_err-value : goal.returns-in_err-value
returns-in_err-value c =
    c.from_residual.ensures
    ∙ digits-no-room c.loop-byte.invariant c.loop-byte-test.true c.in-Some.ensures.0 (omega (arith, c.in_err-value.ensures, c.in-Some.ensures.1))

pub loop-byte-preserved : goal.loop-byte-preserved
loop-byte-preserved c =
    let e = c.in_ok-value.ensures in
    digits-one-more c.loop-byte.invariant _ c.loop-byte-test.true c.in-Some.ensures.0 (omega (arith, e, c.in-Some.ensures.1)) (omega (arith, e, c.in-Some.ensures.1))

pub returns-in_default : goal.returns-in_default
returns-in_default c = digits-before c.loop-byte.invariant c.loop-byte-test.true c.in_default.ensures

pub returns-after-loop-byte : goal.returns-after-loop-byte
returns-after-loop-byte c = digits-all c.loop-byte.invariant c.loop-byte-test.false
