-- `header_inserter::put_into` meets its contract. Assumes nothing.
use mathlib.Core.Path.{refl}
use mathlib.Core.List.{◌++◌}
use Prim.Native.Nat.{◌-◌}
use native.Mathlib.Omega.{arith}
use lib.ListN.{length, take, drop}
use Rattle.bits.specs.Layout.{pack}
use Rattle.bits.proofs.Slices.{rest-lent}
use Rattle.header_tables.specs.AcTables.{ac_widths}
use Rattle.header_inserter.specs.AcBits.{with_first}
use Rattle.header_inserter.proofs.AcValues.{header-written}
use Rattle.header_inserter.proofs.put_into.Goals as goal

pub put_ac-requires : goal.put_ac-requires
put_ac-requires c = omega (arith, c.requires)

pub returns : goal.returns
returns c =
    let h = c.args.header.now in
    let v = take 99 h ++ (c.put_ac.new.part ++ drop (length h - 99) (drop 99 h)) in
    let e = rest-lent (with_first (pack ac_widths c.args.values.now)) h v c.put_ac.new.part 99 c.put_ac.ensures refl in
    header-written h v c.seal.new.header (pack ac_widths c.args.values.now) c.requires e c.seal.ensures
