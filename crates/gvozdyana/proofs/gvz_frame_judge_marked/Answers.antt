-- `gvozdyana::gvz_frame_judge_marked` meets its contract: the answer is that of `abi_marked_frame::frame_judge_marked`. `search` finds this too; the file is here so
-- that a wrong answer is refused by the fact that fails. Assumes nothing.
use Rattle.gvozdyana.proofs.gvz_frame_judge_marked.Goals as goal

pub returns : goal.returns
returns c = c.frame_judge_marked.ensures
