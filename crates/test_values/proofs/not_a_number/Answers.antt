-- `test_values::not_a_number` meets its contract. Assumes nothing.
use mathlib.Core.Path.{refl}
use lib.Ieee.{of_bits, add, sub, neg, div}
use Rattle.test_values.proofs.not_a_number.Goals as goal

pub returns-then-bits-ge9223372036854775808 : goal.returns-then-bits-ge9223372036854775808
unfolding of_bits add sub neg div
returns-then-bits-ge9223372036854775808 c = refl

pub returns-then-bits-ge9221120237041090560 : goal.returns-then-bits-ge9221120237041090560
unfolding of_bits add sub neg div
returns-then-bits-ge9221120237041090560 c = refl

pub returns : goal.returns
unfolding of_bits div
returns c = refl
