-- `listing_lines::end` meets its contract. Assumes nothing.
use mathlib.Core.List.{[], ◌∷◌}
use native.Mathlib.Omega.{arith}
use Rattle.decimals.specs.Decimal.{decimal}
use Rattle.listing.specs.Lines.{end_line, end_count, end_of}
use Rattle.decimals.proofs.Decimals.{length-word}
use Rattle.listing.proofs.LineLengths.{length-end}
use Rattle.decimals.proofs.Stores.{put_then, answered-none, answered-text}
use Rattle.listing_lines.proofs.end.Goals as goal

pub returns-then-out-lt32 : goal.returns-then-out-lt32
unfolding end_count end_of
returns-then-out-lt32 c = let a = c.args in
    let both = answered-none 32 (end_line a.count) a.out.now (omega arith) in
    record { count = both.0; text = both.1 }

pub put_decimal-i-requires : goal.put_decimal-i-requires
put_decimal-i-requires c = let a = c.args in omega (arith, length-word a.count (omega arith))

pub put_byte-requires : goal.put_byte-requires
put_byte-requires c = let a = c.args in omega (arith, length-word a.count (omega arith))

pub returns : goal.returns
unfolding end_count end_of end_line
returns c =
    let a = c.args in
    let both = answered-text 32 (end_line a.count) a.out.now _ _ (omega arith) (omega (arith, length-end a.count (omega arith)))
    (put_then (101 ∷ []) _ c.put_byte-i.ensures
    (put_then (110 ∷ []) _ c.put_byte-i-2.ensures
    (put_then (100 ∷ []) _ c.put_byte-i-3.ensures
    (put_then (32 ∷ []) _ c.put_byte-i-4.ensures
    (put_then (decimal a.count) _ c.put_decimal-i.ensures c.put_byte.ensures))))) in
    record { count = both.0; text = both.1 }
