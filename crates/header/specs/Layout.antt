-- The layout of a header (document 01, "The cable header"; notice 311, source document 002): 1,504 bits with the CRC. Assumes nothing.
use Rattle.std.specs.Prelude.{List, ◌∷◌, ◌++◌, replicate}
use Rattle.bits.specs.declared.Segment.{Segment}
use Rattle.bits.specs.declared.Segment.TheVariants.{Field, Ones}

-- bytes 0 to 98
unfoldable pub front_layout : List Segment
front_layout =
    -- packet header, multiplex frame sync, change number: the table's widths. The annexes 1 and 2, on the first two, are omitted in 002
    Field 32 ∷ Field 16 ∷ Field 3
    -- slot information (annex 3): method, multiplex form, validity of streams 1 to 15, an undefined bit, which is fixed at 1
    ∷ Field 1 ∷ Field 4 ∷ (replicate 15 (Field 1) ++ Ones 1
    -- stream id and original network id of streams 1 to 15 (annex 4)
    ∷ (replicate 30 (Field 16)
    -- control (annex 5): reception states of streams 1 to 15, an undefined bit, which is carried, emergency start
    ++ (replicate 15 (Field 2) ++ Field 1 ∷ Field 1
    -- slots 2 to 53 (annex 6)
    ∷ replicate 52 (Field 4))))

-- bytes 99 to 183. Document 01: "first 204 bits for the AC frame, all 1 when none is sent; the other 476 bits are fixed at 1." It follows the earlier
-- column of 002, which has no annex on the extension: note 13 there puts the AC symbols into the first 204 bits, and note 11 sets all 680 bits to 1 where
-- the extension is not used. The amended annex 7 lays the 476 bits out otherwise; document 02's request c takes that layout in.
unfoldable pub extension_layout : List Segment
extension_layout = replicate 25 (Field 8) ++ Field 4 ∷ Ones 4 ∷ replicate 59 (Ones 8)
