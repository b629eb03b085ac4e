-- A header's two rows of segments. Assumes nothing.
use mathlib.Core.Path.{◌≡◌, refl, sym, ap, ◌∙◌}
use mathlib.Core.List.{List}
use Prim.Native.Nat.{ℕ, ◌*◌}
use lib.ListN.{length}
use Rattle.bits.specs.Layout.{sum, Layout}
use Rattle.bits.specs.declared.Segment.{Segment}
use Rattle.bits.specs.Segment.{widths, free_widths}
use Rattle.bits.proofs.Layouts.{layoutb-layout}
use Rattle.header.specs.Layout.{front_layout, extension_layout}

-- a row of n bytes with m fields
pub record Row (l : List Segment) (n m : ℕ) : Type 0 where
  pub layout : Layout (widths l) n
  pub full : sum (widths l) ≡ 8 * n
  pub fields : length (free_widths l) ≡ m

pub front-row : Row front_layout 99 119
unfolding front_layout widths free_widths sum
front-row = record { layout = layoutb-layout (widths front_layout) 99 refl; full = refl; fields = refl }

pub extension-row : Row extension_layout 85 26
unfolding extension_layout widths free_widths sum
extension-row = record { layout = layoutb-layout (widths extension_layout) 85 refl; full = refl; fields = refl }

-- what `read_fields` asks of a table that is the row
pub read-room : (l t : List Segment) → t ≡ l → (n m k o : ℕ) → Row l n m → k ≡ n → o ≡ m → Layout (widths t) k × (o ≡ length (free_widths t))
read-room l t e n m k o r p q = rw (e, p) (r.layout, q ∙ sym r.fields)
