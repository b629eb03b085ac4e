-- The 204 AC bits as values: 25 bytes and then 4 bits. No promise speaks of them. Assumes nothing.
use Rattle.std.specs.Prelude.{List, [], ◌∷◌, ◌++◌, ℕ, replicate}
use Rattle.bits.specs.Segment.{free_widths}
use Rattle.header.specs.Layout.{extension_layout}

-- the fields of the extension
abbrev pub ac_widths : List ℕ
ac_widths = free_widths extension_layout

-- all of them 1
unfoldable pub ac_ones : List ℕ
ac_ones = replicate 25 255 ++ 15 ∷ []
