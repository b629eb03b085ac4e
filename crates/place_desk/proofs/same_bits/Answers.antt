-- `place_desk::same_bits` meets its contract. Assumes nothing.
use Rattle.place.proofs.Equality.{number, same_numbers, nan-unlike, unlike-nan}
use Rattle.place_desk.proofs.same_bits.Goals as goal

pub float_to_bits-result : goal.float_to_bits-result
float_to_bits-result c = number _ c.if-x.true

pub float_to_bits-result-then-y : goal.float_to_bits-result-then-y
float_to_bits-result-then-y c = number _ c.if-y.true

pub returns-then-y : goal.returns-then-y
returns-then-y c = same_numbers _ _ c.if-x.true c.if-y.true

pub returns-else-y : goal.returns-else-y
returns-else-y c = unlike-nan _ _ c.if-y.false

pub returns-else-x : goal.returns-else-x
returns-else-x c = nan-unlike _ _ c.if-x.false
