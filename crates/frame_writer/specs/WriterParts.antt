-- The parts of a frame as the writer makes them, one after the other. No promise speaks of them. Assumes nothing.
use Rattle.std.specs.Prelude.{Bool, List, [], ◌∷◌, ℕ}
use Rattle.bits.specs.Layout.{pack}
use Rattle.bits.specs.Segment.{pack_segments}
use Rattle.sync_pattern.specs.Pattern.{pattern_word}
use Rattle.frame.specs.Identification.{class_of, start_end_of, update_of}
use Rattle.frame.specs.Body.{layout}
use Rattle.frame.specs.Fields.{body_values, record_body}
use Rattle.frame.specs.declared.Edition.{Edition}
use Rattle.frame.specs.declared.Record.{Record}

-- B0 to B23: reference, pattern, start/end, update, identification
unfoldable pub front_widths : List ℕ
front_widths = 1 ∷ 16 ∷ 2 ∷ 2 ∷ 3 ∷ []

unfoldable pub front_values : Edition → Record → List ℕ
front_values ed r =
    r.reference
    ∷ pattern_word r.pattern
    ∷ start_end_of (class_of ed r.identification)
    ∷ update_of (class_of ed r.identification) r.update
    ∷ r.identification
    ∷ []

unfoldable pub front_bits : Edition → Record → List Bool
front_bits ed r = pack front_widths (front_values ed r)

-- B24 to B111
unfoldable pub detail_bits : Edition → Record → List Bool
detail_bits ed r = pack_segments (layout (record_body ed r)) (body_values (record_body ed r) r)
