use mathlib.Core.Path.{◌≡◌}
use lib.ListN.{take}
use lib.Seq.{sets}
use Rattle.bits.specs.Bits.{bits_of, bytes}
use Rattle.dsc_words.proofs.put_eight.Given as goal

-- What has been stored are the first i bytes of n. Assumes nothing.
abbrev pub invariant-loop-i : goal.invariant-loop-i
invariant-loop-i l = l.out ≡ sets l.initial.out l.at (take l.i (bytes 8 (bits_of 64 l.n)))
