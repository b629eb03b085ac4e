-- `gvozdyana::gvz_crc32` meets its contract: the answer is that of `crc32::crc32`. `search` finds this too; the file is here so that a wrong answer is refused by
-- the fact that fails. Assumes nothing.
use Rattle.gvozdyana.proofs.gvz_crc32.Goals as goal

pub returns : goal.returns
returns c = c.crc32.ensures
