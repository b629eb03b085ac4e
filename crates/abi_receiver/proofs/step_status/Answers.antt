-- `abi_receiver::step_status` meets its contract. Assumes nothing.
use native.Mathlib.Omega.{arith}
use Rattle.abi_receiver.proofs.Numbers.{state-small}
use Rattle.abi_receiver.proofs.step_status.Goals as goal

pub overflow_mul-result : goal.overflow_mul-result
overflow_mul-result c = omega (arith, c.state_number.ensures, state-small c.args.step.next)

pub overflow_add-result : goal.overflow_add-result
overflow_add-result c = omega (arith, c.state_number.ensures, state-small c.args.step.next, c.event_status.ensures.small)
