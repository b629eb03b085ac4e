-- `gvozdyana::gvz_capture_source` meets its contract: the answer is that of `abi_receiver::capture_source`. `search` finds this too; the file is here so that a wrong answer is
-- refused by the fact that fails. Assumes nothing.
use Rattle.gvozdyana.proofs.gvz_capture_source.Goals as goal

pub returns : goal.returns
returns c = c.capture_source.ensures
