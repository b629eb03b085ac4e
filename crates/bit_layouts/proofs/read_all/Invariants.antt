use Rattle.std.proofs.Common.{◌≡◌, ◌++◌, length, take, drop}
use Rattle.bits.specs.Layout.{unpack, sum}
use Rattle.bits.specs.Bits.{bits}
use Rattle.bit_layouts.proofs.read_all.Given as goal

-- `bit_layouts::read_all` meets its contract. Assumes nothing.
abbrev pub invariant-loop-j : goal.invariant-loop-j
invariant-loop-j l = record {
  place : l.at ≡ sum (take l.j l.ws);
  long : length l.out ≡ length l.initial.out;
  values : l.out ≡ unpack (take l.j l.ws) (bits l.s) ++ drop l.j l.initial.out;
}
