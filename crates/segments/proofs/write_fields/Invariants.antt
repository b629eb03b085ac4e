use Rattle.std.proofs.Common.{◌≡◌, ◌++◌, ◌≤◌, length, take, drop}
use Rattle.bits.specs.Bits.{bits}
use Rattle.bits.specs.Layout.{sum}
use Rattle.bits.specs.Segment.{widths, pack_segments}
use Rattle.segments.proofs.Turns.{WrittenSoFar}
use Rattle.segments.proofs.write_fields.Given as goal

-- `segments::write_fields` meets its contract. Assumes nothing.
abbrev pub invariant-loop-j : goal.invariant-loop-j
invariant-loop-j l = record {
  place : l.at ≡ sum (take l.j (widths l.layout));
  long : length l.buf ≡ length l.initial.buf;
  row : WrittenSoFar (pack_segments l.layout l.vs) (take l.at (bits l.buf)) l.vs l.i (drop l.j l.layout);
  few : l.i ≤ l.j;
  after : bits l.buf ≡ take l.at (bits l.buf) ++ drop l.at (bits l.initial.buf);
}
