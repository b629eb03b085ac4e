-- `gvozdyana::gvz_warned` meets its contract: the answer is that of `abi_frame::warned`. `search` finds this too; the file is here so that a wrong answer is
-- refused by the fact that fails. Assumes nothing.
use Rattle.gvozdyana.proofs.gvz_warned.Goals as goal

pub returns : goal.returns
returns c = c.warned.ensures
