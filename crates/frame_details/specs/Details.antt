-- What the details of a body hold, by the table of the bodies as the code has it. No promise speaks of these. Assumes nothing.
use Rattle.std.specs.Prelude.{Bool, ◌&&◌, List, ◌++◌, ℕ, ◌-◌, ◌*◌, ◌^◌, take, drop, replicate}
use Rattle.bits.specs.Bits.{value}
use Rattle.bits.specs.Field.{put_of}
use Rattle.bits.specs.Layout.{unpack}
use Rattle.bits.specs.declared.Segment.TheVariants.{Ones}
use Rattle.bits.specs.Segment.{holds, unpack_segments, fixed_bits_hold}
use Rattle.frame.specs.Body.{layout}
use Rattle.frame.specs.Span.{span_of, between}
use Rattle.frame.specs.Fields.{field_count, field_widths, record_of}
use Rattle.frame.specs.declared.Body.{Body}
use Rattle.frame_details.specs.declared.Details.{Details}

-- the values in the details d, each at its field's index, and 0 for every other field
unfoldable pub fields_read : Body → List Bool → List ℕ
fields_read b d =
    let s = span_of b in
    take s.from (replicate field_count 0)
    ++ (unpack (between s.from s.to (field_widths b)) (drop (8 * s.before) d) ++ drop s.to (replicate field_count 0))

-- the bits fixed at 1 are all 1: those before the fields and those after them
unfoldable pub ones_hold : Body → List Bool → Bool
ones_hold b d =
    holds (Ones (8 * (span_of b).before)) (value (take (8 * (span_of b).before) d))
    && holds (Ones (span_of b).after) (value (take (span_of b).after (drop (88 - (span_of b).after) d)))

-- bytes with the bits fixed at 1 put into them
unfoldable pub ones_written : Body → List ℕ → List ℕ
ones_written b s =
    let n = 8 * (span_of b).before in
    let m = (span_of b).after in put_of (put_of s 0 n (2 ^ n - 1)) (88 - m) m (2 ^ m - 1)

-- the details of a body, with the fields that stand before them
unfoldable pub details_of : Body → (reference pattern identification update : ℕ) → List Bool → Details
details_of b x p i u bs =
    record { holds = fixed_bits_hold (layout b) bs; contents = record_of b x p i u (unpack_segments (layout b) bs) }
