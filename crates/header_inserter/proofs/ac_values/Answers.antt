-- `header_inserter::ac_values` meets its contract. Assumes nothing.
use mathlib.Core.Path.{◌≡◌, ◌∙◌, ap}
use mathlib.Core.List.{List}
use Prim.Native.Nat.{ℕ}
use lib.ListN.{length}
use borrow.Author.Rules.{rules}
use Rattle.bits.specs.Bits.{bits}
use Rattle.bits.specs.Layout.{unpack}
use Rattle.header_inserter.proofs.AcValues.{frame-room}
use Rattle.header_inserter.proofs.ac_values.Goals as goal

pub read_all-requires : goal.read_all-requires
read_all-requires c =
    let size : length c.args.frame.now ≡ 26 = search rules in
    frame-room _ _ _ c.extension_free-widths.ensures size (ap length c.zeros-values.ensures)

pub returns : goal.returns
returns c = c.read_all.ensures ∙ ap (λ (ws : List ℕ). unpack ws (bits c.args.frame.now)) c.extension_free-widths.ensures
