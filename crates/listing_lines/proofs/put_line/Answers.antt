-- `listing_lines::put_line` meets its contract. Assumes nothing.
use mathlib.Core.List.{[], ◌∷◌}
use native.Mathlib.Omega.{arith}
use Rattle.decimals.specs.Decimal.{decimal}
use Rattle.listing.specs.Lines.{places_text, line_of}
use Rattle.listing.proofs.LineLengths.{length-places}
use Rattle.decimals.proofs.Decimals.{length-word, length-byte}
use Rattle.decimals.proofs.Stores.{put_then}
use Rattle.listing_lines.proofs.put_line.Goals as goal

pub put_decimal-i-requires : goal.put_decimal-i-requires
put_decimal-i-requires c = let a = c.args in omega (arith, length-word a.number (omega arith))

pub put_byte-i-requires : goal.put_byte-i-requires
put_byte-i-requires c = let a = c.args in omega (arith, length-word a.number (omega arith))

pub put_decimal-i-requires-2 : goal.put_decimal-i-requires-2
put_decimal-i-requires-2 c = let a = c.args in omega (arith, length-word a.number (omega arith), length-byte a.verdict.number (omega arith))

pub put_byte-i-requires-2 : goal.put_byte-i-requires-2
put_byte-i-requires-2 c = let a = c.args in omega (arith, length-word a.number (omega arith), length-byte a.verdict.number (omega arith))

pub put_places-i-requires : goal.put_places-i-requires
put_places-i-requires c = let a = c.args in omega (arith, length-word a.number (omega arith), length-byte a.verdict.number (omega arith))

pub put_byte-requires : goal.put_byte-requires
put_byte-requires c = let a = c.args in omega (arith, length-word a.number (omega arith), length-byte a.verdict.number (omega arith), length-places a.verdict (omega arith))

pub returns : goal.returns
unfolding line_of
returns c =
    let a = c.args in
    put_then (decimal a.number) _ c.put_decimal-i.ensures
    (put_then (32 ∷ []) _ c.put_byte-i.ensures
    (put_then (decimal a.verdict.number) _ c.put_decimal-i-2.ensures
    (put_then (32 ∷ []) _ c.put_byte-i-2.ensures
    (put_then (places_text a.verdict) _ c.put_places-i.ensures c.put_byte.ensures))))
