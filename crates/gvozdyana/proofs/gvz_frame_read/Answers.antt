-- `gvozdyana::gvz_frame_read` meets its contract: the answer and the record are those of `abi_frame::frame_read`. `search` finds this too; the file is here so that a wrong
-- answer is refused by the fact that fails. Assumes nothing.
use Rattle.gvozdyana.proofs.gvz_frame_read.Goals as goal

pub returns : goal.returns
returns c = record { value = c.frame_read.ensures.status; values_after = c.frame_read.ensures.values }
