-- `frame_refusals::crc_differs` meets its contract. Assumes nothing.
use mathlib.Core.Path.{refl}
use Rattle.frame_refusals.proofs.Tests.{got}
use Rattle.frame_refusals.proofs.crc_differs.Goals as goal

pub returns : goal.returns
returns c =
    rw (got c.args.word.now 112 10 c.get-stands.result c.requires refl c.get-stands.ensures, c.crc10-crc.ensures)
