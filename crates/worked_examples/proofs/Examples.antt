-- The worked examples hold. Assumes nothing.
use Rattle.dsc.proofs.Worked as code
use Rattle.crc.proofs.Examples.{crc-examples}
use Rattle.frame.proofs.Worked as frame
use Rattle.follower.proofs.Promises as follower
use Rattle.worked_examples.specs.Examples.{Examples}

pub examples : Examples
examples =
    record {
      example1 = (code.worked).example1;
      example1-clean = (code.worked).example1-clean;
      example2 = (code.worked).example2;
      example2-ones = (code.worked).example2-ones;
      example3 = (code.worked).example3;
      example3-some = (code.worked).example3-some;
      example4 = (code.worked).example4;
      example5 = (code.worked).example5;
      example6 = crc-examples.example6;
      example7-one = crc-examples.example7-one;
      example7-both = crc-examples.example7-both;
      example8-written = (frame.worked).example8-written;
      example8-read = (frame.worked).example8-read;
      example8-not-written = (frame.worked).example8-not-written;
      example8-not-read = (frame.worked).example8-not-read;
      example8-some = (frame.worked).example8-some;
      example9-changed = (follower.worked).example9-changed;
      example9-skipped = (follower.worked).example9-skipped;
      example9-some = (follower.worked).example9-some;
      example10 = (frame.worked).example10;
    }
