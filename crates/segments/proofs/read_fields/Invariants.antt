use Rattle.std.proofs.Common.{◌≡◌, ◌&&◌, length, take, drop}
use Rattle.bits.specs.Bits.{bits}
use Rattle.bits.specs.Layout.{sum}
use Rattle.bits.specs.Segment.{widths, unpack_segments, fixed_bits_hold}
use Rattle.segments.proofs.Turns.{ReadSoFar}
use Rattle.segments.proofs.read_fields.Given as goal

-- `segments::read_fields` meets its contract. Assumes nothing.
abbrev pub invariant-loop-segment : goal.invariant-loop-segment
invariant-loop-segment l = record {
  place : l.at ≡ sum (take l.segment-index (widths l.layout));
  long : length l.out ≡ length l.initial.out;
  values : ReadSoFar (unpack_segments l.layout (bits l.s)) l.i l.out (drop l.segment-index l.layout) (drop l.at (bits l.s));
  fixed : fixed_bits_hold l.layout (bits l.s) ≡ (l.fixed && fixed_bits_hold (drop l.segment-index l.layout) (drop l.at (bits l.s)));
}
