-- What `write_fields` asks over a part's table, and what it leaves. Assumes nothing.
use mathlib.Core.Path.{◌≡◌, refl, ap, ap₂, ◌∙◌}
use mathlib.Core.List.{List, ◌++◌}
use Prim.Native.Nat.{ℕ, ◌≤◌, ◌<◌}
use native.Mathlib.Omega.{arith}
use lib.ListN.{length, drop}
use Rattle.bits.specs.Bits.{bits, bytes, Bytes}
use Rattle.bits.specs.Layout.{sum, Layout}
use Rattle.bits.specs.declared.Segment.{Segment}
use Rattle.bits.specs.Segment.{widths, free_widths, pack_segments}
use Rattle.bits.proofs.Segments.{length-pack_segments}
use Rattle.header.proofs.Parts.{written-part}
use Rattle.header_tables.proofs.Rows.{Row, read-room}

-- what `write_fields` asks of the table x, which is the layout l
pub write-room : (l x : List Segment) → x ≡ l → (n m k : ℕ) (vs : List ℕ) → Row l n m → n ≤ k → length vs ≡ m → m < 65536
    → Layout (widths x) k × (length vs ≡ length (free_widths x)) × (length vs < 65536)
write-room l x q n m k vs r h o z =
    let p = read-room l x q n m n (length vs) r refl o in
    (record { narrow = p.0.narrow; room = omega (arith, p.0.room); short = p.0.short }, p.1, omega arith)

-- and what it leaves
pub written : (l x : List Segment) → x ≡ l → (n m : ℕ) (vs s t : List ℕ) → Row l n m → n ≤ length s → length t ≡ length s → Bytes s → Bytes t
    → bits t ≡ pack_segments x vs ++ drop (sum (widths x)) (bits s) → t ≡ bytes n (pack_segments l vs) ++ drop n s
written l x q n m vs s t r h e bs bt p =
    written-part n (pack_segments l vs) s t h e bs bt (length-pack_segments l vs ∙ r.full)
    (p ∙ ap₂ (λ y k. pack_segments y vs ++ drop k (bits s)) q (ap (λ y. sum (widths y)) q ∙ r.full))
