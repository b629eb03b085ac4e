-- A kind and a width as a segment. Assumes nothing.
use Rattle.std.specs.Prelude.{ℕ}
use Rattle.bits.specs.declared.Segment.{Segment}
use Rattle.bits.specs.declared.Segment.TheVariants.{Field, Ones, Zeros}
use Rattle.bit_layouts.specs.declared.Kind.{Kind}
use Rattle.bit_layouts.specs.declared.Kind.TheVariants as kind

-- w bits of a kind
abbrev pub segment_of : Kind → (w : ℕ) → Segment
segment_of kind.Field w = Field w
segment_of kind.FixedOnes w = Ones w
segment_of kind.FixedZeros w = Zeros w
