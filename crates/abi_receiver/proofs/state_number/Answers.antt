-- `abi_receiver::state_number` meets its contract. Assumes nothing.
use native.Mathlib.Omega.{arith}
use Rattle.abi_receiver.proofs.Numbers.{kind-small, active-told}
use Rattle.abi_receiver.proofs.state_number.Goals as goal

pub overflow_mul-result : goal.overflow_mul-result
overflow_mul-result c = omega (arith, c.kind_number.ensures, kind-small c.in-Active.kind)

pub overflow_add-result : goal.overflow_add-result
overflow_add-result c = omega (arith, c.kind_number.ensures, kind-small c.in-Active.kind)

pub returns-in-Active : goal.returns-in-Active
returns-in-Active c = active-told _ _ c.in-Active.is c.kind_number.ensures
