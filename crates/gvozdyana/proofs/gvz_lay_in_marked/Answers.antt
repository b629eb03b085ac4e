-- `gvozdyana::gvz_lay_in_marked` meets its contract: the answer and the header are those of `abi_laying::lay_in_marked`. `search` finds this too; the file is here so
-- that a wrong answer is refused by the fact that fails. Assumes nothing.
use Rattle.gvozdyana.proofs.gvz_lay_in_marked.Goals as goal

pub returns : goal.returns
returns c = record { value = c.lay_in_marked.ensures.status; header_after = c.lay_in_marked.ensures.header }
