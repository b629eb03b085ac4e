-- `crc32::feed_group` meets its contract. Assumes nothing.
use Rattle.crc.specs.Crc.{g32}
use Rattle.crc.proofs.Crc.{length-g32}
use Rattle.crc32.proofs.Group.{feed-eight}
use Rattle.crc32.proofs.feed_group.Goals as goal

pub returns : goal.returns
returns c =
    feed-eight g32 c.args.r c.check_group.result c.args.g.now length-g32 c.requires c.check_group.ensures
