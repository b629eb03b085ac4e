use Rattle.std.proofs.Common.{◌≡◌, ◌++◌, length, take, drop}
use Rattle.bits.specs.Layout.{pack, sum}
use Rattle.bits.specs.Bits.{bits}
use Rattle.bit_layouts.proofs.write_all.Given as goal

-- `bit_layouts::write_all` meets its contract. Assumes nothing.
abbrev pub invariant-loop-width : goal.invariant-loop-width
invariant-loop-width l = let j = length l.yielded in record {
  place : l.at ≡ sum (take j l.ws);
  long : length l.buf ≡ length l.initial.buf;
  written : bits l.buf ≡ pack (take j l.ws) (take j l.vs) ++ drop (sum (take j l.ws)) (bits l.initial.buf);
}
