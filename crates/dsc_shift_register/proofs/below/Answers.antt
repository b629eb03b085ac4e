-- `dsc_shift_register::below` meets its contract. Assumes nothing.
use mathlib.Core.Path.{sym}
use mathlib.Core.Bool.{false}
use native.Mathlib.Omega.{arith}
use lib.ListN.{get_or-eq_default}
use Rattle.dsc_shift_register.proofs.below.Goals as goal

pub returns-else-j-lt81 : goal.returns-else-j-lt81
returns-else-j-lt81 c = sym (get_or-eq_default c.args.s.now false (omega arith))
